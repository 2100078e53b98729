-- Rooms from tables of words and results.
use Rattle.std.specs.Prelude.{◌≡◌, ℕ, suc, ◌+◌, ◌*◌, ◌<◌, ◌≤◌, List, [], ◌∷◌, ◌++◌, map, length, take, slice_get, slice_index, sum_by, if◌then◌else◌, Option, Some, None}
use Rattle.std.proofs.Common.{arith, ap, sym, ◌∙◌, get_or, refl}
use Rattle.std.proofs.lemmas.List.{take_more, take_all, map-append}
use Rattle.std.specs.Option.{option_map}
use Rattle.std.proofs.lemmas.Option.{slice_get-map}
use Rattle.tu_base.specs.declared.shape.Shape.{Shape}
use Rattle.tu_base.specs.Shapes.{all_words}
use Rattle.tu_core.specs.declared.names.LocalName.{LocalName}
use Rattle.tu_core.specs.declared.names.LocalName.TheVariants as local
use Rattle.tu_core.specs.declared.names.CallResult.{CallResult}
use Rattle.tu_core.specs.declared.names.CallResult.TheVariants as call_result
use Rattle.tu_core.specs.Core as core
use Rattle.tu_core.specs.Core.{Call, Calls, Text, Set, Path, Statement, Block, Handler, Routine, Program}
use Rattle.tu_core.specs.Measures.{of_block}
use Rattle.tu_core.specs.Nodes.{nodes}
use Rattle.tu_core.specs.Rooms.{one_if, formal_words, handler_nodes, above_two, result_words, local_words, callee_result, text_results, set_results, path_results, results, all_joins, is_scalar_local, scalars_from, scalars_of, handler_blocks, room, room_of, main_room}
use Rattle.tu_room_parts.specs.declared.count.Count.{Count}
use Rattle.tu_room_parts.specs.declared.count.Count.TheVariants as count
use Rattle.tu_room_parts.specs.Capped.{capped}
use Rattle.tu_room_parts.specs.Counts.{counting, known_result, known_text, known_set, known_path}
use Rattle.tu_room.specs.Tables.{result_known, block_room_of, handler_room_of, own_words_of, routine_room_of, room_at}
use Rattle.tu_room_parts.proofs.Fusion.{Fuses}
use Rattle.tu_room_counts.proofs.StatementFusion.{FusesPlain, FusesAll, fuse_block}
use Rattle.tu_room_counts.proofs.Measured.{capped_sum}
use Rattle.tu_room_joins.specs.Flags.{flagged}
use Rattle.tu_room_parts.proofs.Known.{known_capped, sum_capped, known_again}

-- words of results
result_again : (words : List ℕ) (g : CallResult) → capped (above_two (result_words (map capped words) g)) ≡ capped (above_two (result_words words g))
result_again words call_result.Nothing = refl
result_again words (call_result.OneValue target) = refl
result_again words (call_result.OnePlace shape) = ap (λ n. capped (above_two n)) (known_capped words shape) ∙ above_again (slice_index words shape)
  where
    above_again : (n : ℕ) → capped (above_two (capped n)) ≡ capped (above_two n)
    above_again n = grind arith

result_words_again : (words : List ℕ) (g : CallResult) → capped (result_words (map capped words) g) ≡ capped (result_words words g)
result_words_again words call_result.Nothing = refl
result_words_again words (call_result.OneValue target) = refl
result_words_again words (call_result.OnePlace shape) = known_again words shape

local_again : (words : List ℕ) (l : LocalName) → capped (local_words (map capped words) l) ≡ capped (local_words words l)
local_again words (local.Declared shape) = known_again words shape
local_again words (local.DeclaredArray indexes component) = refl
local_again words (local.BoundName shape) = refl
local_again words local.BoundText = refl
local_again words (local.BoundArray indexes component) = refl
local_again words (local.Counter s) = refl
local_again words local.Caught = refl
local_again words local.ResultName = refl

-- the words of a call's result, by the routine that is called
module _ (words : List ℕ) (routines : List Routine) where
  abbrev pub known : List ℕ
  known = map (result_known (map capped words)) routines

  found : (o : Option Routine) → capped (elim (option_map (result_known (map capped words)) o) [ None ↦ 0 | Some n ↦ n ]) ≡ capped (elim o [ None ↦ 0 | Some r ↦ above_two (result_words words r.gives) ])
  found None = refl
  found (Some r) = omega (arith, result_again words r.gives)

  result_is : (c : Call) → capped (known_result known c) ≡ capped (callee_result words routines c)
  result_is (Calls at callee invariant actuals) = ap (λ (o : Option ℕ). capped (elim o [ None ↦ 0 | Some n ↦ n ])) (slice_get-map (result_known (map capped words)) routines callee) ∙ found (slice_get routines callee)

  text_is : (e : Text) → capped (known_text known e) ≡ capped (text_results words routines e)
  text_is (core.Written n bytes) = refl
  text_is (core.UseText n p) = refl
  text_is (core.Joined n e more) = refl
  text_is (core.Cut n e cuts) = refl
  text_is (core.Character n e) = refl
  text_is (core.IntText n e width) = refl
  text_is (core.Repeat n e k) = refl
  text_is (core.CallText n call) = result_is call

  set_is : (e : Set) → capped (known_set known e) ≡ capped (set_results words routines e)
  set_is (core.SetOf n base es) = refl
  set_is (core.FullSet n base) = refl
  set_is (core.UseSet n p) = refl
  set_is (core.Combined n base e more) = refl
  set_is (core.CallSet n call) = result_is call

  path_is : (p : Path) → capped (known_path known p) ≡ capped (path_results words routines p)
  path_is (core.Name at x steps) = refl
  path_is (core.OpenItem at x indexes es steps) = refl
  path_is (core.Element at c e steps) = refl
  path_is (core.ResultOf at k call steps) = result_is call

  expressions_fuse : Fuses capped (results words routines) (counting (count.Results known))
  expressions_fuse = record { none = refl; plus = capped_sum; scalar = λ e. refl; link = refl; text = text_is; set = set_is; pointer = λ e. refl; spot = λ i. refl; path = path_is; selector = refl; actual = λ a. refl; call = λ c. refl }

  plain_fuse : FusesPlain capped (results words routines) (counting (count.Results known))
  plain_fuse = record { expressions = expressions_fuse; parts = refl; taken = λ t. refl; test = refl; plain = λ s. refl; declaration = λ d. refl }

  results_fuse : FusesAll capped (results words routines) (counting (count.Results known))
  results_fuse = record { all_plain = plain_fuse; statement = λ s. refl; binding = λ at is_var p. refl; arm = refl }

-- numbers that are cut off to the same
record Same (a b : ℕ) : Type 0 where
  is : capped a ≡ capped b

same_sum : {a b c d : ℕ} → Same a b → Same c d → Same (a + c) (b + d)
same_sum p q = record { is = omega (arith, p.is, q.is) }

itself : (a : ℕ) → Same a a
itself a = record { is = refl }

blocks_sum : (f : Block → ℕ) (a b c : Block) (h : Handler) → sum_by f (a ∷ (b ∷ (c ∷ handler_blocks h))) ≡ f a + (f b + (f c + sum_by f (handler_blocks h)))
blocks_sum f a b c core.NoHandler = omega arith
blocks_sum f a b c (core.Handles at name d) = omega arith

module _ (words : List ℕ) (routines : List Routine) (scalars : List ℕ) where
  -- the room of a block by the definition
  abbrev block_part : Block → ℕ
  block_part b = 12 * (of_block nodes b + of_block (all_joins scalars) b) + of_block (results words routines) b

  abbrev handler_part : Handler → ℕ
  handler_part h = 12 * (handler_nodes h + sum_by (of_block nodes) (handler_blocks h) + sum_by (of_block (all_joins scalars)) (handler_blocks h)) + sum_by (of_block (results words routines)) (handler_blocks h)

  block_is : (b : Block) → Same (block_room_of (count.Results (known words routines)) scalars b) (block_part b)
  block_is b = record { is = omega (arith, fuse_block (results_fuse words routines) b) }

  handler_is : (h : Handler) → Same (handler_room_of (count.Results (known words routines)) scalars h) (handler_part h)
  handler_is core.NoHandler = record { is = refl }
  handler_is (core.Handles at name b) = record { is = omega (arith, fuse_block (results_fuse words routines) b) }

  -- the same, with the blocks in a row
  room_is : (own stars : ℕ) (a b c : Block) (h : Handler) → 64 + (own + (12 * stars + (block_part a + (block_part b + (block_part c + handler_part h))))) ≡ room words routines scalars (stars + handler_nodes h) own (a ∷ (b ∷ (c ∷ handler_blocks h)))
  room_is own stars a b c h = omega (arith, blocks_sum (of_block nodes) a b c h, blocks_sum (of_block (all_joins scalars)) a b c h, blocks_sum (of_block (results words routines)) a b c h)

locals_are : (words : List ℕ) (xs : List LocalName) → Same (sum_by (local_words (map capped words)) xs) (sum_by (local_words words) xs)
locals_are words xs = record { is = sum_capped (local_words words) (local_words (map capped words)) (local_again words) xs }

result_word : (words : List ℕ) (g : CallResult) → Same (result_words (map capped words) g) (result_words words g)
result_word words g = record { is = result_words_again words g }

own_is : (words : List ℕ) (r : Routine) → Same (own_words_of (map capped words) r) (own_words_of words r)
own_is words r = same_sum (itself (sum_by formal_words r.formals)) (same_sum (result_word words r.gives) (same_sum (itself (one_if r.is_invariant)) (locals_are words r.locals)))

grouped : (a b c d : ℕ) → a + (b + (c + d)) ≡ a + b + c + d
grouped a b c d = omega arith

pub routine_is : (shapes : List Shape) (words : List ℕ) (routines : List Routine) (r : Routine) → capped (routine_room_of (map capped words) (count.Results (known words routines)) (scalars_of shapes r) r) ≡ capped (room_of shapes words routines r)
routine_is shapes words routines r =
    let scalars = scalars_of shapes r in
    let parts = same_sum (block_is words routines scalars r.before) (same_sum (block_is words routines scalars r.body) (same_sum (block_is words routines scalars r.after) (handler_is words routines scalars r.handler))) in
    let whole = same_sum (itself 64) (same_sum (own_is words r) (same_sum (itself (12 * r.stars)) parts)) in
    whole.is
    ∙ ap capped (room_is words routines scalars (own_words_of words r) r.stars r.before r.body r.after r.handler)
    ∙ ap (λ own. capped (room words routines scalars (r.stars + handler_nodes r.handler) own (r.before ∷ (r.body ∷ (r.after ∷ handler_blocks r.handler))))) (grouped (sum_by formal_words r.formals) (result_words words r.gives) (one_if r.is_invariant) (sum_by (local_words words) r.locals))

pub main_is : (words : List ℕ) (p : Program) → capped (64 + (sum_by (local_words (map capped words)) p.locals + block_room_of (count.Results (known words p.routines)) (scalars_from p.shapes 0 p.locals) p.main)) ≡ capped (main_room words p)
main_is words p =
    let scalars = scalars_from p.shapes 0 p.locals in
    let whole = same_sum (itself 64) (same_sum (locals_are words p.locals) (block_is words p.routines scalars p.main)) in
    whole.is ∙ ap capped (main_sum (sum_by (local_words words) p.locals) (of_block nodes p.main) (of_block (all_joins scalars) p.main) (of_block (results words p.routines) p.main))
  where
    main_sum : (own n j r : ℕ) → 64 + (own + (12 * (n + j) + r)) ≡ 64 + own + 12 * (0 + (0 + n) + (0 + j)) + (0 + r)
    main_sum own n j r = omega arith

-- the room of a routine, by tables
pub room_found : (p : Program) (table : List ℕ) (results : Count) (scalars : List ℕ) (r : Routine) (n : ℕ) → table ≡ map capped (all_words p.shapes) → results ≡ count.Results (map (result_known table) p.routines) → scalars ≡ scalars_of p.shapes r → n ≡ capped (routine_room_of table results scalars r) → n ≡ room_at p r
room_found p table results scalars r n t rs ss e =
    e
    ∙ ap (λ z. capped (routine_room_of table z scalars r)) rs
    ∙ ap (λ z. capped (routine_room_of z (count.Results (map (result_known z) p.routines)) scalars r)) t
    ∙ ap (λ z. capped (routine_room_of (map capped (all_words p.shapes)) (count.Results (known (all_words p.shapes) p.routines)) z r)) ss
    ∙ routine_is p.shapes (all_words p.shapes) p.routines r

pub main_found : (p : Program) (table : List ℕ) (results : Count) (scalars : List ℕ) (n : ℕ) → table ≡ map capped (all_words p.shapes) → results ≡ count.Results (map (result_known table) p.routines) → scalars ≡ scalars_from p.shapes 0 p.locals → n ≡ capped (64 + (sum_by (local_words table) p.locals + block_room_of results scalars p.main)) → n ≡ capped (main_room (all_words p.shapes) p)
main_found p table results scalars n t rs ss e =
    e
    ∙ ap (λ z. capped (64 + (sum_by (local_words table) p.locals + block_room_of z scalars p.main))) rs
    ∙ ap (λ z. capped (64 + (sum_by (local_words z) p.locals + block_room_of (count.Results (map (result_known z) p.routines)) scalars p.main))) t
    ∙ ap (λ z. capped (64 + (sum_by (local_words (map capped (all_words p.shapes))) p.locals + block_room_of (count.Results (known (all_words p.shapes) p.routines)) z p.main))) ss
    ∙ main_is (all_words p.shapes) p

-- one more of a list's items
pub map_more : {A : Type 0} {B : Type 0} (f : A → B) (xs : List A) (k : ℕ) (before new : List B) (x : A) (y : B) → before ≡ map f (take k xs) → k < length xs → x ≡ get_or xs k x → y ≡ f x → new ≡ before ++ y ∷ [] → new ≡ map f (take (k + 1) xs)
map_more f xs k before new x y b lt e o is =
    let longer : take (k + 1) xs ≡ take k xs ++ x ∷ [] = take_more xs k x lt ∙ ap (λ z. take k xs ++ z ∷ []) (sym e) in
    is ∙ ap (λ z. z ++ y ∷ []) b ∙ ap (λ z. map f (take k xs) ++ z ∷ []) o ∙ sym (map-append f (take k xs) (x ∷ [])) ∙ ap (map f) (sym longer)

pub map_all : {A : Type 0} {B : Type 0} (f : A → B) (xs : List A) (k : ℕ) (before : List B) → before ≡ map f (take k xs) → length xs ≤ k → before ≡ map f xs
map_all f xs k before b le = b ∙ ap (map f) (take_all k xs le)

-- the scalars by their flags
pub flagged_are : (shapes : List Shape) (n : ℕ) (locals : List LocalName) → flagged n (map (is_scalar_local shapes) locals) ≡ scalars_from shapes n locals
flagged_are shapes n [] = refl
flagged_are shapes n (x ∷ xs) = ap (λ z. if is_scalar_local shapes x then n ∷ z else z) (flagged_are shapes (suc n) xs)
