-- Joins and rooms of texts.
use Rattle.std.specs.Prelude.{ℕ, suc, ◌+◌, ◌*◌, ◌==◌, Bool, true, false, List, [], ◌∷◌, length, nat_lt, count_by, sum_by, slice_get, slice_index, Some, None, if◌then◌else◌}
use Rattle.tu_base.specs.declared.limits.TheConstants.{MOST_TEXT_BYTES}
use Rattle.tu_base.specs.declared.shape.Shape.{Shape}
use Rattle.tu_base.specs.declared.shape.Shape.TheVariants.{Scalar as scalar_shape, Text as text_shape, Set as set_shape, Pointer as pointer_shape, Array as array_shape, Record as record_shape, Union as union_shape}
use Rattle.tu_base.specs.Shapes.{text_words, set_words}
use Rattle.tu_core.specs.declared.names.Variable.{Variable}
use Rattle.tu_core.specs.declared.names.Variable.TheVariants.{Global, Local}
use Rattle.tu_core.specs.declared.names.LocalName.{LocalName}
use Rattle.tu_core.specs.declared.names.LocalName.TheVariants.{Declared, DeclaredArray, BoundName, BoundText, BoundArray, Counter, Caught, ResultName}
use Rattle.tu_core.specs.declared.names.Formal.{Formal}
use Rattle.tu_core.specs.declared.names.Formal.TheVariants.{ByValue, ByCopy, ByVar}
use Rattle.tu_core.specs.declared.names.CallResult.{CallResult}
use Rattle.tu_core.specs.declared.names.CallResult.TheVariants.{Nothing, OneValue, OnePlace}
use Rattle.tu_core.specs.declared.targets.Index.{Index}
use Rattle.tu_core.specs.declared.targets.Size.{Size}
use Rattle.tu_core.specs.declared.targets.Size.TheVariants.{Most, AtName}
use Rattle.tu_core.specs.declared.targets.Target.{Target}
use Rattle.tu_core.specs.declared.targets.Target.TheVariants.{TakesScalar, TakesText, TakesSet, TakesPointer}
use Rattle.tu_core.specs.Core.{Text, Written, UseText, Joined, Cut, Character, IntText, Repeat, CallText, Set, SetOf, FullSet, UseSet, Combined, CallSet, Path, Name, OpenItem, Element, ResultOf, Call, Calls, Actuals, NoActual, Given, Lent, Taken, NoneTaken, TakeInt, TakeTruth, TakeToken, TakeLine, TakeCount, Plain, Assign, Copy, Exit, Return, Give, GiveCopy, Check, New, Free, Tag, Put, Get, OpenStream, Close, Do, Quit, Statement, Simply, If, Loop, For, Case, Begin, Module, Block, Handler, NoHandler, Handles, Routine, Program}
use Rattle.tu_core.specs.Measures.{Measure, of_statement, of_block}
use Rattle.tu_core.specs.Nodes.{sums, nodes, text_count, cut_count, set_count}

-- the most bytes of a text; one whose size stands at the name counts as the longest
abbrev pub most_of : Size → ℕ
most_of (Most n) = n
most_of AtName = MOST_TEXT_BYTES

-- the words of what a place without parts takes
abbrev pub target_words : Target → ℕ
target_words (TakesScalar s) = 1
target_words (TakesText size) = text_words (most_of size)
target_words (TakesSet base) = set_words base.members
target_words (TakesPointer c) = 2

-- an array with run-time bounds has a word for each dimension and one more, beside its elements
abbrev pub open_words : List Index → ℕ
open_words indexes = 1 + length indexes

abbrev pub is_same : Variable → Variable → Bool
is_same (Global x) (Global y) = x == y
is_same (Global x) (Local y) = false
is_same (Local x) (Global y) = false
is_same (Local x) (Local y) = x == y

abbrev pub one_if : Bool → ℕ
one_if true = 1
one_if false = 0

-- 1 where a place has this root
abbrev pub has_root : Variable → Path → ℕ
has_root x (Name at y steps) = one_if (is_same x y)
has_root x (OpenItem at y indexes es steps) = one_if (is_same x y)
has_root x (Element at c e steps) = 0
has_root x (ResultOf at k call steps) = 0

abbrev pub taken_changes : Variable → Taken → ℕ
taken_changes x NoneTaken = 0
taken_changes x (TakeInt s p more) = has_root x p
taken_changes x (TakeTruth p more) = has_root x p
taken_changes x (TakeToken size p more) = has_root x p
taken_changes x (TakeLine size p more) = has_root x p
taken_changes x (TakeCount size p e more) = has_root x p

abbrev pub var_root : (is_var : Bool) → Variable → Path → ℕ
var_root true x p = has_root x p
var_root false x p = 0

abbrev pub actual_changes : Variable → Actuals → ℕ
actual_changes x NoActual = 0
actual_changes x (Given at size e more) = 0
actual_changes x (Lent at is_var bounds p more) = var_root is_var x p

abbrev pub plain_changes : Variable → Plain → ℕ
plain_changes x (Assign target p e) = has_root x p
plain_changes x (Copy shape to from) = has_root x to
plain_changes x (Exit condition) = 0
plain_changes x Return = 0
plain_changes x (Give target e) = 0
plain_changes x (GiveCopy shape p) = 0
plain_changes x (Check claim e) = 0
plain_changes x (New c at p) = has_root x p
plain_changes x (Free c at p) = has_root x p
plain_changes x (Tag shape p e) = has_root x p
plain_changes x (Put stream shown ends_line) = 0
plain_changes x (Get stream taken) = 0
plain_changes x (OpenStream s p e is_put) = has_root x p
plain_changes x (Close e) = 0
plain_changes x (Do call) = 0
plain_changes x (Quit number) = 0

-- How often a text changes a variable: by storing to it or to a part of it, by lending one as a `var` actual, and by `bind var`. To declare
-- it is no change.
abbrev pub changes : Variable → Measure ℕ
changes x = record sums { actual = actual_changes x; taken = taken_changes x; plain = plain_changes x; binding = λ at is_var p. var_root is_var x p }

-- the joins of a statement: how many of these locals its text changes
abbrev pub joins : (scalars : List ℕ) → Statement → ℕ
joins scalars s = count_by (λ x. nat_lt 0 (of_statement (changes (Local x)) s)) scalars

-- the joins of the statements with blocks; a module is none
abbrev pub own_joins : (scalars : List ℕ) → Statement → ℕ
own_joins scalars (Simply at s) = 0
own_joins scalars (If at e block otherwise) = joins scalars (If at e block otherwise)
own_joins scalars (Loop at invariant block) = joins scalars (Loop at invariant block)
own_joins scalars (For at x decreasing range invariant block) = joins scalars (For at x decreasing range invariant block)
own_joins scalars (Case at e arms) = joins scalars (Case at e arms)
own_joins scalars (Begin at block) = joins scalars (Begin at block)
own_joins scalars (Module at fixed collections invariant line block) = 0

abbrev pub all_joins : (scalars : List ℕ) → Measure ℕ
all_joins scalars = record sums { statement = own_joins scalars }

abbrev pub is_scalar_shape : Shape → Bool
is_scalar_shape (scalar_shape s) = true
is_scalar_shape (text_shape most) = false
is_scalar_shape (set_shape low members) = false
is_scalar_shape (pointer_shape c) = false
is_scalar_shape (array_shape indexes component) = false
is_scalar_shape (record_shape fields) = false
is_scalar_shape (union_shape tag variants) = false

abbrev pub is_scalar_at : List Shape → ℕ → Bool
is_scalar_at shapes n = elim (slice_get shapes n) [ None ↦ false | Some s ↦ is_scalar_shape s ]

-- whether a local is a scalar that its text may change
abbrev pub is_scalar_local : List Shape → LocalName → Bool
is_scalar_local shapes (Declared shape) = is_scalar_at shapes shape
is_scalar_local shapes (DeclaredArray indexes component) = false
is_scalar_local shapes (BoundName shape) = is_scalar_at shapes shape
is_scalar_local shapes BoundText = false
is_scalar_local shapes (BoundArray indexes component) = false
is_scalar_local shapes (Counter s) = false
is_scalar_local shapes Caught = false
is_scalar_local shapes ResultName = false

-- the scalar locals behind n formals, by their numbers
abbrev pub scalars_from : List Shape → (n : ℕ) → List LocalName → List ℕ
scalars_from shapes n [] = []
scalars_from shapes n (x ∷ more) = if is_scalar_local shapes x then n ∷ scalars_from shapes (suc n) more else scalars_from shapes (suc n) more

-- the words of a local; those of a result are counted once, with the result
abbrev pub local_words : (words : List ℕ) → LocalName → ℕ
local_words words (Declared shape) = slice_index words shape
local_words words (DeclaredArray indexes component) = open_words indexes
local_words words (BoundName shape) = 2
local_words words BoundText = 2
local_words words (BoundArray indexes component) = 2
local_words words (Counter s) = 1
local_words words Caught = 1
local_words words ResultName = 0

-- a value is received, and of a place where it is
abbrev pub formal_words : Formal → ℕ
formal_words (ByValue target) = target_words target
formal_words (ByCopy kind) = 2
formal_words (ByVar at kind) = 2

abbrev pub result_words : (words : List ℕ) → CallResult → ℕ
result_words words Nothing = 0
result_words words (OneValue target) = target_words target
result_words words (OnePlace shape) = slice_index words shape

-- A result of more than two words has a place in the room of the text that calls.
abbrev pub above_two : ℕ → ℕ
above_two words = if nat_lt 2 words then words else 0

abbrev pub callee_result : (words : List ℕ) → List Routine → Call → ℕ
callee_result words routines (Calls at callee invariant actuals) = elim (slice_get routines callee) [ None ↦ 0 | Some r ↦ above_two (result_words words r.gives) ]

abbrev pub longest_text : ℕ
longest_text = text_words MOST_TEXT_BYTES

-- what each operator, part and function with a text as its result takes
abbrev pub text_results : (words : List ℕ) → List Routine → Text → ℕ
text_results words routines (Written n bytes) = 0
text_results words routines (UseText n p) = 0
text_results words routines (Joined n e more) = longest_text * text_count more
text_results words routines (Cut n e cuts) = longest_text * cut_count cuts
text_results words routines (Character n e) = longest_text
text_results words routines (IntText n e width) = longest_text
text_results words routines (Repeat n e k) = longest_text
text_results words routines (CallText n call) = callee_result words routines call

abbrev pub set_results : (words : List ℕ) → List Routine → Set → ℕ
set_results words routines (SetOf n base es) = above_two (set_words base.members)
set_results words routines (FullSet n base) = above_two (set_words base.members)
set_results words routines (UseSet n p) = 0
set_results words routines (Combined n base e more) = above_two (set_words base.members) * set_count more
set_results words routines (CallSet n call) = callee_result words routines call

abbrev pub path_results : (words : List ℕ) → List Routine → Path → ℕ
path_results words routines (Name at x steps) = 0
path_results words routines (OpenItem at x indexes es steps) = 0
path_results words routines (Element at c e steps) = 0
path_results words routines (ResultOf at k call steps) = callee_result words routines call

-- the words of all results of more than two words in a text
abbrev pub results : (words : List ℕ) → List Routine → Measure ℕ
results words routines = record sums { text = text_results words routines; set = set_results words routines; path = path_results words routines }

-- the room of a text, by blocks, with so many nodes and words beside them
abbrev pub room : (words : List ℕ) → List Routine → (scalars : List ℕ) → (own_nodes own_words : ℕ) → List Block → ℕ
room words routines scalars own_nodes own_words blocks =
    64 + own_words + 12 * (own_nodes + sum_by (of_block nodes) blocks + sum_by (of_block (all_joins scalars)) blocks) + sum_by (of_block (results words routines)) blocks

abbrev pub handler_blocks : Handler → List Block
handler_blocks NoHandler = []
handler_blocks (Handles at name block) = block ∷ []

-- the clause of a handler, and its name
abbrev pub handler_nodes : Handler → ℕ
handler_nodes NoHandler = 0
handler_nodes (Handles at name block) = 2

abbrev pub scalars_of : List Shape → Routine → List ℕ
scalars_of shapes r = scalars_from shapes (length r.formals) r.locals

-- the room of a subprogram, or of an invariant, where the words of each shape are known
abbrev pub room_of : List Shape → (words : List ℕ) → List Routine → Routine → ℕ
room_of shapes words routines r =
    room words routines (scalars_of shapes r) (r.stars + handler_nodes r.handler) (sum_by formal_words r.formals + result_words words r.gives + one_if r.is_invariant + sum_by (local_words words) r.locals)
    (r.before ∷ (r.body ∷ (r.after ∷ handler_blocks r.handler)))

-- the room of the main program, to which the bodies of modules belong
abbrev pub main_room : (words : List ℕ) → Program → ℕ
main_room words p = room words p.routines (scalars_from p.shapes 0 p.locals) 0 (sum_by (local_words words) p.locals) (p.main ∷ [])
