-- What a text asks for as a whole: an `exit` leaves a loop of the text, and the results of its calls that are places have numbers of their own.
use Rattle.std.specs.Prelude.{ℕ, ◌==◌, Bool, true, false, not, ◌&&◌, List, [], ◌∷◌, ◌++◌}
use Rattle.std.specs.List.{list_all, list_any, flat_map}
use Rattle.tu_core.specs.Core.{Path, Name, OpenItem, Element, ResultOf, Plain, Exit, Statement, Simply, If, Loop, For, Case, Begin, Module, Block, Empty, Then, Declare, Bind, Otherwise, Else, Elsif, Arms, NoArm, Default, Labelled, Routine, Program}
use Rattle.tu_core.specs.Measures.{Measure, nothing, of_block}
use Rattle.tu_core.specs.Rooms.{handler_blocks}

abbrev pub plain_stays : (in_loop : Bool) → Plain → Bool
plain_stays in_loop (Exit condition) = in_loop
plain_stays in_loop s = true

-- whether each `exit` stands in a loop, or is to leave one around the form
abbrev mutual
  pub statement_stays : (in_loop : Bool) → Statement → Bool
  statement_stays in_loop (Simply at s) = plain_stays in_loop s
  statement_stays in_loop (If at e block otherwise) = block_stays in_loop block && otherwise_stays in_loop otherwise
  statement_stays in_loop (Loop at invariant block) = block_stays true block
  statement_stays in_loop (For at x decreasing range invariant block) = block_stays true block
  statement_stays in_loop (Case at e arms) = arms_stay in_loop arms
  statement_stays in_loop (Begin at block) = block_stays in_loop block
  statement_stays in_loop (Module at fixed collections invariant line block) = block_stays in_loop block

  pub block_stays : (in_loop : Bool) → Block → Bool
  block_stays in_loop Empty = true
  block_stays in_loop (Then s more) = statement_stays in_loop s && block_stays in_loop more
  block_stays in_loop (Declare at d more) = block_stays in_loop more
  block_stays in_loop (Bind at x is_var path more) = block_stays in_loop more

  pub otherwise_stays : (in_loop : Bool) → Otherwise → Bool
  otherwise_stays in_loop (Else block) = block_stays in_loop block
  otherwise_stays in_loop (Elsif at e block more) = block_stays in_loop block && otherwise_stays in_loop more

  pub arms_stay : (in_loop : Bool) → Arms → Bool
  arms_stay in_loop NoArm = true
  arms_stay in_loop (Default block) = block_stays in_loop block
  arms_stay in_loop (Labelled labels block more) = block_stays in_loop block && arms_stay in_loop more

-- the blocks of a routine, which are one text
abbrev pub routine_blocks : Routine → List Block
routine_blocks r = r.before ∷ (r.body ∷ (r.after ∷ handler_blocks r.handler))

abbrev pub exits_leave_loops : Program → Bool
exits_leave_loops p = block_stays false p.main && list_all (λ r. list_all (block_stays false) (routine_blocks r)) p.routines

abbrev pub path_number : Path → List ℕ
path_number (Name at x steps) = []
path_number (OpenItem at x indexes es steps) = []
path_number (Element at c e steps) = []
path_number (ResultOf at k call steps) = k ∷ []

-- the numbers of the results that are places
abbrev pub result_numbers : Measure (List ℕ)
result_numbers = record (nothing [] (λ xs ys. xs ++ ys)) { path = path_number }

abbrev pub all_differ : List ℕ → Bool
all_differ [] = true
all_differ (n ∷ more) = not (list_any (λ m. m == n) more) && all_differ more

abbrev pub results_differ : Program → Bool
results_differ p = all_differ (of_block result_numbers p.main) && list_all (λ r. all_differ (flat_map (of_block result_numbers) (routine_blocks r))) p.routines
