-- Worked rows on results with parts, on run-time arrays and on formals of open size. The units beside a row are counted from the table of units.
use Rattle.std.proofs.Common.{false, ◌≡◌, ℕ, true, List, [], ◌∷◌, ◌++◌, Some, None, codes, refl}
use Rattle.std.specs.Prelude.{pos}
use Rattle.std.specs.Fmt.{digits}
use Rattle.tu_base.specs.Shapes.{all_words}
use Rattle.tu_base.specs.declared.kind.Kind.TheVariants as kind
use Rattle.tu_base.specs.declared.shape.Shape.TheVariants.{Record}
use Rattle.tu_core.specs.Targets.{ints}
use Rattle.tu_core.specs.declared.names.PlaceKind.TheVariants.{AnyArray}
use Rattle.tu_core.specs.declared.names.Variable.{Variable}
use Rattle.tu_core.specs.declared.names.Variable.TheVariants.{Global, Local}
use Rattle.tu_core.specs.declared.names.GlobalName.TheVariants.{GlobalOf, GlobalArray}
use Rattle.tu_core.specs.declared.names.LocalName.TheVariants.{Counter, Declared, DeclaredArray}
use Rattle.tu_core.specs.declared.names.Formal.TheVariants.{ByValue, ByVar}
use Rattle.tu_core.specs.declared.names.CallResult.TheVariants.{OnePlace}
use Rattle.tu_core.specs.declared.targets.Index.{Index}
use Rattle.tu_core.specs.declared.targets.Index.TheVariants.{Open}
use Rattle.tu_core.specs.declared.targets.Size.TheVariants.{AtName}
use Rattle.tu_core.specs.declared.targets.Target.TheVariants.{TakesText}
use Rattle.tu_core.specs.Core.{For, FromTo, Scalar, Call, Calls, Bound, Length, UseText, Path, OpenItem, ResultOf, End, Field, NoSubscript, Subscript, NoScalar, AndScalar, Absent, AText, NoActual, Given, Lent, NoneShown, WithCopy, GiveCopy, Simply, Declare, Arrays, Empty, Then, Routine, Program}
use Rattle.tu_core.specs.Rooms.{room_of}
use Rattle.tu_meaning.specs.Steps.{◌>>=◌, give, raise, stop, lost, look, change, consult, pay, happen, note, turn, take_room, scope, handled}
use Rattle.tu_meaning.specs.Meaning.{Ends, Stops}
use Rattle.tu_meaning.proofs.rows.Making.{times, within, comes, line, on, int_shape, int, number, plus, global, local, global_at, local_at, show, text, show_text, put, set, call, given, var, var_from, from, routine, procedure, by_value, program, simple, only}

-- type R : record
--   x : int
--   y : int
-- end record
-- function f (n : int) : R
--   var r : R
--   r.x := n
--   r.y := n + 1
--   result r
-- end f
abbrev made : Routine
made = routine (OnePlace 1) (by_value ∷ []) (Declared 1 ∷ []) Empty
    (var 6 1 (Local 1 ∷ []) (Then (set 7 (local_at 1 (Field 1 0 End)) (number (local 0))) (Then (set 8 (local_at 1 (Field 1 1 End)) (plus (number (local 0)) (int 1))) (only (Simply (on 9) (GiveCopy 1 (local 1))))))) Empty 10

abbrev making : (line n : ℕ) → Call
making l n = Calls (on l) 0 None (given (int n) NoActual)

-- put f (4).y
-- var s : R := f (5)
-- put s.x
abbrev results : Program
results = program (int_shape ∷ (Record (0 ∷ (0 ∷ [])) ∷ [])) (1 ∷ []) (made ∷ [])
    (Then (put 11 (show (number (ResultOf (on 11) 0 (making 11 4) (Field 1 1 End))) NoneShown))
    (var_from 12 1 (Global 0 ∷ []) (WithCopy 1 (ResultOf (on 12) 1 (making 12 5) End)) (only (put 13 (show (number (global_at 0 (Field 1 0 End))) NoneShown)))))

-- A call: a turn, a formal, r and its words 3, 4, 6, and `result` and its value 2 and two words, which is 19. Line 11: the statement, the call and
-- its actual, 19, the selector, 32 and two bytes. Line 12: the name and its words 3, the call and its actual, 19, a copy of two words. Line 13: 37.
row_results : within 9 results [] ≡ comes (line (codes "5") ++ line (codes "5")) Ends 120
unfolding ◌>>=◌ give raise stop lost look change consult pay happen note turn take_room scope handled digits
row_results = refl

-- procedure p (s : string (*))
--   put s, length (s)
-- end p
-- p ("abc")
-- A value for a formal of open size is copied with 65 words. Line 4: 2 nodes, a turn, a formal and its words. Line 2: the statement; s, three bytes
-- written and put; `length` and s, 32 and a byte; the line end.
row_open_text : within 9 (simple [] (record (procedure (ByValue (TakesText AtName) ∷ []) [] (only (put 2 (show_text (UseText 0 (local 0)) (show (Length 0 (UseText 0 (local 0))) NoneShown)))) 3) { stars = 1 } ∷ [])
    (only (call 4 0 (Given (on 4) (Some 255) (AText (text (codes "abc"))) NoActual)))) [] ≡ comes (line (codes "abc3")) Ends 113
unfolding ◌>>=◌ give raise stop lost look change consult pay happen note turn take_room scope handled digits
row_open_text = refl

abbrev from_one : List Index
from_one = Open (pos 1) ∷ []

abbrev element : Variable → Scalar → Path
element x e = OpenItem (on 0) x from_one (Subscript None e NoSubscript) End

-- procedure p (n : int)
--   var a : array 1 .. n of int
--   a (n) := 1
-- end p
abbrev wide : Routine
wide = procedure (by_value ∷ []) (DeclaredArray from_one 0 ∷ [])
    (Declare (on 2) (Arrays (Local 1 ∷ []) from_one 0 (AndScalar (number (local 0)) NoScalar)) (only (set 3 (element (Local 1) (number (local 0))) (int 1)))) 4

-- the words of the elements are no part of the room: 64, the formal, two words of the array, and 12 for each of 7 nodes
room_wide : room_of (int_shape ∷ []) (all_words (int_shape ∷ [])) [] wide ≡ 151
room_wide = refl

-- p (SIZE)
abbrev one_wide : (size : ℕ) → Program
one_wide size = simple [] (wide ∷ []) (only (call 5 0 (given (int size) NoActual)))

-- 88 + 151 + 8388369 is the limit. Line 5: 2 nodes, a turn, a formal. Line 2: the name, n, two words and those of the elements. Line 3: 5.
row_wide_fits : within 9 (one_wide 8388369) [] ≡ comes [] Ends 8388382
unfolding ◌>>=◌ give raise stop lost look change consult pay happen note turn take_room scope handled digits
row_wide_fits = refl

-- Storage has the line of the declaration; the name and the bound were paid
row_too_wide : within 9 (one_wide 8388370) [] ≡ comes [] (Stops kind.Storage 2) 6
unfolding ◌>>=◌ give raise stop lost look change consult pay happen note turn take_room scope handled digits
row_too_wide = refl

-- p (8000000)
-- p (8000000)
-- The words of a run-time array are given back as its scope ends.
row_given_back : within 9 (simple [] (wide ∷ []) (Then (call 5 0 (given (int 8000000) NoActual)) (only (call 6 0 (given (int 8000000) NoActual))))) [] ≡ comes [] Ends 16000026
unfolding ◌>>=◌ give raise stop lost look change consult pay happen note turn take_room scope handled digits
row_given_back = refl

-- for i : 1 .. 2
--   var a : array 1 .. i * 4000000 of int
-- end for
-- A block in a loop ends with each round. `for` and its bounds 3; a round has a turn, the name and its bound of 3 nodes, two words and those of the
-- elements.
row_each_round : within 9 (record (simple [] [] (only (For (on 1) 0 false (FromTo (int 1) (int 2)) None (Declare (on 2) (Arrays (Global 0 ∷ []) from_one 0 (AndScalar (times (number (local 0)) (int 4000000)) NoScalar)) Empty)))) { globals = GlobalArray from_one 0 ∷ []; locals = Counter ints ∷ [] }) [] ≡ comes [] Ends 12000017
unfolding ◌>>=◌ give raise stop lost look change consult pay happen note turn take_room scope handled digits
row_each_round = refl

-- var n : int := 2
-- var a : array 1 .. n of int
-- procedure fill (var b : array 1 .. * of int)
--   b (upper (b)) := 7
-- end fill
-- fill (a)
-- put a (2)
-- put a (3)
abbrev filled : Program
filled = record (simple [] (record (procedure (ByVar (on 6) (AnyArray from_one 0) ∷ []) [] (only (set 4 (element (Local 0) (Bound 0 true from_one (local 0) Absent)) (int 7))) 5) { stars = 1 } ∷ [])
    (var_from 1 0 (Global 0 ∷ []) (from (int 2)) (Declare (on 2) (Arrays (Global 1 ∷ []) from_one 0 (AndScalar (number (global 0)) NoScalar))
    (Then (call 6 0 (Lent (on 6) true None (global 1) NoActual)) (Then (put 7 (show (number (element (Global 1) (int 2))) NoneShown)) (only (put 8 (show (number (element (Global 1) (int 3))) NoneShown)))))))) { globals = GlobalOf 0 ∷ (GlobalArray from_one 0 ∷ []) }

-- The bounds go with what is lent. Line 1: 3. Line 2: the name, n, two words and two of its elements. Line 6: 2 nodes, a turn, a formal; the
-- statement, a path of 4, a literal. Line 7: 4 nodes, 32, two bytes. Line 8: 4.
row_filled : within 9 filled [] ≡ comes (line (codes "7")) (Stops kind.Subscript 8) 61
unfolding ◌>>=◌ give raise stop lost look change consult pay happen note turn take_room scope handled digits
row_filled = refl
