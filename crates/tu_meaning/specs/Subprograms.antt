-- What calls do, over any store.
use Rattle.std.specs.Prelude.{ℕ, zero, suc, ◌+◌, List, [], ◌∷◌, slice_get, Option, Some, None, pos}
use Rattle.tu_base.specs.Kind.{kind_number}
use Rattle.tu_base.specs.declared.kind.Kind.TheVariants as kind
use Rattle.tu_base.specs.Shapes.{copy_words}
use Rattle.tu_base.specs.Values.{Number, alone}
use Rattle.tu_core.specs.declared.names.Formal.{Formal}
use Rattle.tu_core.specs.declared.names.Formal.TheVariants.{ByValue, ByCopy, ByVar}
use Rattle.tu_core.specs.declared.names.CallResult.{CallResult}
use Rattle.tu_core.specs.declared.names.CallResult.TheVariants.{Nothing, OneValue, OnePlace}
use Rattle.tu_core.specs.Core.{Block, Handler, NoHandler, Handles, Routine, Program}
use Rattle.tu_core.specs.Rooms.{room_of, scalars_of, target_words}
use Rattle.tu_meaning.specs.Steps.{Step, give, raise, stop, lost, change, pay, turn, take_room, scope, handled, ◌>>=◌, ◌>>◌}
use Rattle.tu_meaning.specs.Store.{OfActivation, Actual, GivenValue, LentPlace, Passing, holds}
use Rattle.tu_meaning.specs.Words.{misfit, unless_raised, Back, content_back, Flow, Next, Exits, Returns, GivesBack, back_of}
use Rattle.tu_meaning.specs.Expressions.{Performs, Taken, Running}
use Rattle.tu_meaning.specs.Statements.{in_scope, execute_parts}

-- The subprograms of a program, within t turns.
module _ (S : Type 0) (passing : Passing S) (t : ℕ) (program : Program) (words : List ℕ) where
  abbrev pub text_at : (depth : ℕ) → Performs S → (scalars : List ℕ) → Taken → Running S
  text_at depth perform scalars taken = record { passing = passing; turns = t; depth = depth; program = program; words = words; perform = perform; scalars = scalars; taken = taken }

  abbrev pub execute_text : (depth : ℕ) → Performs S → (scalars : List ℕ) → Taken → Block → Step S Flow
  execute_text depth perform scalars taken block = execute_parts (text_at depth perform scalars taken) block

  -- A formal of a value is tested as it receives it, and then costs a unit and the words of a copy. A formal that is lent costs a unit.
  abbrev pub receive : (line : ℕ) → Formal → Actual → Step S (Unit {0})
  receive line (ByValue target) (GivenValue bounds v) = do
    unless_raised line (misfit target [] v)
    pay (1 + copy_words (target_words target))
  receive line (ByValue target) (LentPlace is_var bounds p) = lost
  receive line (ByCopy kind) (GivenValue bounds v) = lost
  receive line (ByCopy kind) (LentPlace is_var bounds p) = pay 1
  receive line (ByVar at kind) (GivenValue bounds v) = lost
  receive line (ByVar at kind) (LentPlace is_var bounds p) = pay 1

  abbrev pub receive_all : (line : ℕ) → List Formal → List Actual → Step S (Unit {0})
  receive_all line [] [] = give tt
  receive_all line [] (a ∷ actuals) = lost
  receive_all line (f ∷ more) [] = lost
  receive_all line (f ∷ more) (a ∷ actuals) = do
    receive line f a
    receive_all line more actuals

  -- a function that reaches its end raises Result
  abbrev pub result_of : (line : ℕ) → Flow → Step S Back
  result_of line Next = raise kind.Result line
  result_of line Exits = raise kind.Result line
  result_of line Returns = raise kind.Result line
  result_of line (GivesBack back) = give back

  abbrev pub unless_missing : (line : ℕ) → CallResult → Flow → Step S Back
  unless_missing line Nothing flow = give (back_of flow)
  unless_missing line (OneValue target) flow = result_of line flow
  unless_missing line (OnePlace shape) flow = result_of line flow

  -- the body, or a handler's block
  abbrev pub run_body : (depth : ℕ) → Performs S → Taken → Routine → Block → Step S Back
  run_body depth perform taken r block = do
    flow ← in_scope (text_at depth perform (scalars_of program.shapes r) taken) (execute_text depth perform (scalars_of program.shapes r) taken block)
    unless_missing r.end_line r.gives flow

  -- A handler takes what the body raises, and its block runs in the same activation, where its name holds the exception's number. Its clause
  -- and its name cost a unit each as the body begins, and the taking of an exception one.
  abbrev pub run_handled : (depth : ℕ) → Performs S → Routine → Handler → Step S Back
  run_handled depth perform r NoHandler = run_body depth perform None r r.body
  run_handled depth perform r (Handles at name block) = do
    pay 2
    handled (run_body depth perform None r r.body) (λ exception line. do
      pay 1
      change (λ s. passing.declare s (OfActivation name) (holds (alone (Number (pos (kind_number exception))))))
      run_body depth perform (Some (exception, line)) r block)

  -- in `post` the result has a name
  abbrev pub name_result : Option ℕ → Back → Step S (Unit {0})
  name_result None back = give tt
  name_result (Some x) back = change (λ s. passing.declare s (OfActivation x) (holds (content_back back)))

  -- What runs in the activation once its formals have received their actuals: `pre` and `init`, the body, and `post`.
  abbrev pub run_routine : (depth : ℕ) → Performs S → Routine → Step S Back
  run_routine depth perform r = do
    begun ← execute_text depth perform (scalars_of program.shapes r) None r.before
    back ← run_handled depth perform r r.handler
    name_result r.result back
    checked ← execute_text depth perform (scalars_of program.shapes r) None r.after
    give back

  -- The activation of a subprogram: its room is taken, and its formals receive their actuals. As it is left from then on, also by an
  -- exception, the `var` formals are copied back as they stand. Its room is given back.
  abbrev pub activation : (depth : ℕ) → Performs S → (line : ℕ) → List Actual → Option Routine → Step S Back
  activation depth perform line actuals None = lost
  activation depth perform line actuals (Some r) = scope (λ s. s) (λ opened s. s) (do
    take_room (room_of program.shapes words program.routines r) line
    receive_all line r.formals actuals
    scope (passing.enter actuals) (passing.leave actuals) (run_routine depth perform r))

  -- Calls, at most so deep: each begins a turn.
  abbrev pub calls : (depth : ℕ) → Performs S
  calls zero line callee actuals = stop
  calls (suc depth) line callee actuals = do
    turn t
    activation depth (calls depth) line actuals (slice_get program.routines callee)
