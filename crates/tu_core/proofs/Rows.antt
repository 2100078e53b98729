-- Worked rows of the core: rooms, nodes, joins, and the walk along two places.
use Rattle.std.proofs.Common.{◌≡◌, ℕ, true, false, List, [], ◌∷◌, map, Some, None, refl}
use Rattle.std.specs.Prelude.{pos}
use Rattle.tu_base.specs.Shapes.{all_words}
use Rattle.tu_base.specs.declared.shape.Shape.{Shape}
use Rattle.tu_base.specs.declared.shape.Shape.TheVariants.{Scalar as scalar_shape, Array as array_shape}
use Rattle.tu_base.specs.declared.operator.Relation.TheVariants.{Greater}
use Rattle.tu_base.specs.declared.operator.Binary.TheVariants.{Add, Subtract, Compare}
use Rattle.tu_core.specs.declared.names.At.{At}
use Rattle.tu_core.specs.declared.names.Variable.TheVariants.{Global, Local}
use Rattle.tu_core.specs.declared.names.LocalName.{LocalName}
use Rattle.tu_core.specs.declared.names.LocalName.TheVariants.{Declared, Counter, Caught}
use Rattle.tu_core.specs.declared.names.Formal.{Formal}
use Rattle.tu_core.specs.declared.names.Formal.TheVariants.{ByValue, ByVar, ByCopy}
use Rattle.tu_core.specs.declared.names.PlaceKind.TheVariants.{OfShape, AnyText}
use Rattle.tu_core.specs.declared.names.CallResult.TheVariants.{Nothing}
use Rattle.tu_core.specs.declared.targets.Index.TheVariants.{Open}
use Rattle.tu_core.specs.declared.targets.Size.TheVariants.{Most, AtName}
use Rattle.tu_core.specs.declared.targets.Target.{Target}
use Rattle.tu_core.specs.declared.targets.Target.TheVariants.{TakesScalar, TakesText}
use Rattle.tu_core.specs.Targets.{ints}
use Rattle.tu_core.specs.Core.{Scalar, Literal, Use, Chain, NoLink, Link, Text, Written, Joined, Repeat, NoText, AndText, Cut, NoCut, CutPart, Exactly, BeforeLast, Path, Name, OpenItem, Element, Selectors, End, Field, Item, NoSubscript, Subscript, Calls, Actuals, NoActual, Given, Lent, AScalar, UsePointer, FromTo, Assign, Do, Simply, If, Loop, For, Begin, Statement, Block, Empty, Then, Declare, Bind, Variables, Else, NoHandler, Handles, Routine, Program}
use Rattle.tu_core.specs.Measures.{of_text}
use Rattle.tu_core.specs.Nodes.{nodes}
use Rattle.tu_core.specs.Rooms.{joins, room_of, main_room, results, formal_words}
use Rattle.tu_core.specs.Walk.{AtElements, AtStep, Apart, Same, Maybe, walk, pairs_of}

abbrev on : (line : ℕ) → At
on n = record { start = 0; line = n }

abbrev an_int : Target
an_int = TakesScalar ints

abbrev shapes : List Shape
shapes = scalar_shape ints ∷ (array_shape (record { low = pos 1; high = pos 1000 } ∷ []) 0 ∷ [])

abbrev int : ℕ → Scalar
int n = Literal 0 (pos n)

abbrev number : Path → Scalar
number p = Use 0 p

abbrev local : ℕ → Path
local x = Name (on 0) (Local x) End

abbrev global : ℕ → Selectors → Path
global x steps = Name (on 0) (Global x) steps

abbrev set : (line : ℕ) → Path → Scalar → Statement
set n p e = Simply (on n) (Assign an_int p (AScalar e))

abbrev call : (line callee : ℕ) → Actuals → Statement
call n callee actuals = Simply (on n) (Do (Calls (on n) callee None actuals))

abbrev less : Scalar → Scalar → Scalar
less a b = Chain 0 a (Link Subtract b NoLink)

abbrev plus : Scalar → Scalar → Scalar
plus a b = Chain 0 a (Link Add b NoLink)

abbrev is_greater : Scalar → Scalar → Scalar
is_greater a b = Chain 0 a (Link (Compare Greater) b NoLink)

abbrev procedure : List Formal → List LocalName → Block → Routine
procedure formals locals body = record { gives = Nothing; is_invariant = false; result = None; formals = formals; stars = 0; locals = locals; before = Empty; body = body; handler = NoHandler; after = Empty; end_line = 9; fixed = []; fixed_collections = [] }

abbrev program : List LocalName → List Routine → Block → Program
program locals routines main = record { shapes = shapes; globals = []; collections = []; routines = routines; locals = locals; main = main }

abbrev room : Routine → ℕ
room r = room_of shapes (all_words shapes) (r ∷ []) r

abbrev main_words : Program → ℕ
main_words p = main_room (all_words p.shapes) p

-- procedure p (d : int)
--   if d > 1 then
--     p (d - 1)
--   end if
-- end p
abbrev down : Routine
down = procedure (ByValue an_int ∷ []) [] (Then (If (on 2) (is_greater (number (local 0)) (int 1)) (Then (call 3 0 (Given (on 0) None (AScalar (less (number (local 0)) (int 1))) NoActual)) Empty) (Else Empty)) Empty)

-- 64, the formal, and 12 for each of 8 nodes: `if`, `>`, d, 1, the call, `-`, d, 1
room_down : room down ≡ 161
room_down = refl

-- p (52102)
-- 64, and 12 for the call and the literal
room_of_main : main_words (program [] (down ∷ []) (Then (call 6 0 (Given (on 0) None (AScalar (int 52102)) NoActual)) Empty)) ≡ 88
room_of_main = refl

-- procedure r (var a : array 1 .. 1000 of int, d : int)
--   a (1) := d
--   if d > 1 then
--     r (a, d - 1)
--   end if
-- end r
-- 64 + 2 + 1 + 12 * 14: the assignment 5, `if` 4, the call 5
room_of_reference : room (procedure (ByVar (on 1) (OfShape 1) ∷ (ByValue an_int ∷ [])) []
    (Then (set 2 (Name (on 2) (Local 0) (Item 1 (Subscript (Some (pos 1)) (int 1) NoSubscript) End)) (number (local 1)))
    (Then (If (on 3) (is_greater (number (local 1)) (int 1)) (Then (call 4 0 (Lent (on 4) true (Some []) (local 0) (Given (on 4) None (AScalar (less (number (local 1)) (int 1))) NoActual))) Empty) (Else Empty)) Empty))) ≡ 235
room_of_reference = refl

-- the words of formals: an int, `string (*)`, `string (5)`, a structured constant, `var`
words_of_formals : map formal_words (ByValue an_int ∷ (ByValue (TakesText AtName) ∷ (ByValue (TakesText (Most 5)) ∷ (ByCopy (OfShape 1) ∷ (ByVar (on 0) AnyText ∷ []))))) ≡ 1 ∷ (65 ∷ (3 ∷ (2 ∷ (2 ∷ []))))
words_of_formals = refl

-- var t : int
-- for i : 1 .. 3
--   t := t + i
-- end for
abbrev summing : Statement
summing = For (on 2) 1 false (FromTo (int 1) (int 3)) None (Then (set 3 (local 0) (plus (number (local 0)) (number (local 1)))) Empty)

-- `for` changes t and not its index
joins_summing : joins (0 ∷ (1 ∷ [])) summing ≡ 1
joins_summing = refl

-- in a procedure: 64, two locals, 12 for each of 9 nodes (the name t, `for` and its bounds, the assignment 5) and for the one join
room_summing : room (procedure [] (Declared 0 ∷ (Counter ints ∷ [])) (Declare (on 1) (Variables (Local 0 ∷ []) 0) (Then summing Empty))) ≡ 186
room_summing = refl

-- begin
--   bind var y to a, var x to y
--   x := 7
-- end
-- A name that is changed counts, and so does the root of a `bind var`, here y; a is no local.
joins_bound : joins (0 ∷ (1 ∷ [])) (Begin (on 2) (Bind (on 2) 0 true (global 0 End) (Bind (on 2) 1 true (local 0) (Then (set 2 (local 1) (int 7)) Empty)))) ≡ 2
joins_bound = refl

-- a loop in a loop: each of the two has the join of its own
-- loop
--   loop
--     t := 1
--   end loop
-- end loop
room_nested : room (procedure [] (Declared 0 ∷ []) (Then (Loop (on 1) None (Then (Loop (on 2) None (Then (set 3 (local 0) (int 1)) Empty)) Empty)) Empty)) ≡ 149
room_nested = refl

-- a declaration is no change
joins_declared : joins (0 ∷ []) (Loop (on 1) None (Declare (on 2) (Variables (Local 0 ∷ []) 0) Empty)) ≡ 0
joins_declared = refl

-- repeat ("x", 3) + "y" is `repeat`, its two literals, `+` and a literal; the results are two texts of 65 words
abbrev joined : Text
joined = Joined 0 (Repeat 0 (Written 0 (120 ∷ [])) (int 3)) (AndText (Written 0 (121 ∷ [])) NoText)

nodes_joined : of_text nodes joined ≡ 5
nodes_joined = refl

results_joined : of_text (results [] []) joined ≡ 130
results_joined = refl

-- "abc" (2 .. * - 1) is the literal, the part, 2, `*`, `-` and 1
nodes_cut : of_text nodes (Cut 0 (Written 0 (97 ∷ (98 ∷ (99 ∷ [])))) (CutPart (Exactly (int 2)) (BeforeLast (int 1)) NoCut)) ≡ 6
nodes_cut = refl

-- handler (k)
--   t := k
-- end handler
-- The clause and its name are nodes, and k is a local of one word: 64 + 2 + 12 * (2 + 3).
room_handled : room (record (procedure [] (Declared 0 ∷ (Caught ∷ [])) Empty) { handler = Handles (on 1) 1 (Then (set 2 (local 0) (number (local 1))) Empty) }) ≡ 126
room_handled = refl

-- The walk. Elements of the global 0 by a constant and by another subscript; a field; an element of a collection.
abbrev at_constant : ℕ → Selectors → Selectors
at_constant n more = Item 1 (Subscript (Some (pos n)) (int n) NoSubscript) more

abbrev at_other : ℕ → Selectors → Selectors
at_other x more = Item 1 (Subscript None (number (local x)) NoSubscript) more

abbrev element : (collection pointer : ℕ) → Selectors → Path
element c x steps = Element (on 0) c (UsePointer 0 (local x)) steps

-- different roots
walk_roots : walk (global 0 End) (global 1 End) ≡ Apart
walk_roots = refl

-- a global and a local with equal numbers
walk_kinds : walk (global 0 End) (local 0) ≡ Apart
walk_kinds = refl

walk_same : walk (global 0 End) (global 0 End) ≡ Same
walk_same = refl

-- a (1) and a (2)
walk_constants : walk (global 0 (at_constant 1 End)) (global 0 (at_constant 2 End)) ≡ Apart
walk_constants = refl

-- a and a (1), and a (1) and a (1)
walk_part : walk (global 0 End) (global 0 (at_constant 1 End)) ≡ Same
walk_part = refl

walk_equal : walk (global 0 (at_constant 1 End)) (global 0 (at_constant 1 End)) ≡ Same
walk_equal = refl

-- a (i) and a (j): the first step is noted
walk_noted : walk (global 0 (at_other 0 End)) (global 0 (at_other 1 End)) ≡ Maybe (AtStep 0 ∷ [])
walk_noted = refl

-- a (i).f and a (j).g
walk_fields : walk (global 0 (at_other 0 (Field 2 0 End))) (global 0 (at_other 1 (Field 2 1 End))) ≡ Apart
walk_fields = refl

-- a (1) (i) and a (1) (j): the second step is noted
walk_second : walk (global 0 (at_constant 1 (at_other 0 End))) (global 0 (at_constant 1 (at_other 1 End))) ≡ Maybe (AtStep 1 ∷ [])
walk_second = refl

-- m (1, i) and m (2, j): one pair of different constants is enough
walk_brackets : walk (global 0 (Item 1 (Subscript (Some (pos 1)) (int 1) (Subscript None (number (local 0)) NoSubscript)) End))
    (global 0 (Item 1 (Subscript (Some (pos 2)) (int 2) (Subscript None (number (local 1)) NoSubscript)) End)) ≡ Apart
walk_brackets = refl

-- C (p).f (i) and C (q).f (j): two tests
walk_elements : walk (element 0 0 (Field 2 0 (at_other 2 End))) (element 0 1 (Field 2 0 (at_other 3 End))) ≡ Maybe (AtElements ∷ (AtStep 1 ∷ []))
walk_elements = refl

-- elements of two collections
walk_collections : walk (element 0 0 End) (element 1 1 End) ≡ Apart
walk_collections = refl

-- an array with run-time bounds: b (i) and b (j), and b and b (i)
abbrev open_item : ℕ → Path
open_item x = OpenItem (on 0) (Local 4) (Open (pos 1) ∷ []) (Subscript None (number (local x)) NoSubscript) End

walk_open : walk (open_item 0) (open_item 1) ≡ Maybe (AtStep 0 ∷ [])
walk_open = refl

walk_open_whole : walk (local 4) (open_item 1) ≡ Same
walk_open_whole = refl

-- p (a (i), 1, a (j), a (i)) of a `var`, a value, a `var` and a structured constant formal: the pairs stand in the order of the first and then
-- of the second actual
pairs_in_order : pairs_of (Lent (on 0) true (Some []) (global 0 (at_other 0 End)) (Given (on 0) None (AScalar (int 1)) (Lent (on 0) true (Some []) (global 0 (at_other 1 End)) (Lent (on 0) false (Some []) (global 0 (at_other 0 End)) NoActual))))
    ≡ record { first = 0; second = 2; tests = AtStep 0 ∷ [] } ∷ (record { first = 0; second = 3; tests = AtStep 0 ∷ [] } ∷ (record { first = 2; second = 3; tests = AtStep 0 ∷ [] } ∷ []))
pairs_in_order = refl

-- two structured constant actuals are no pair
pairs_of_constants : pairs_of (Lent (on 0) false (Some []) (global 0 (at_other 0 End)) (Lent (on 0) false (Some []) (global 0 (at_other 1 End)) NoActual)) ≡ []
pairs_of_constants = refl
