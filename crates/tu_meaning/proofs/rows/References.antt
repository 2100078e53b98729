-- Worked rows on binds, on actuals that are lent, and on formals of open size. The units beside a row are counted from the table of units.
use Rattle.std.proofs.Common.{◌≡◌, true, false, List, [], ◌∷◌, Some, None, codes, refl}
use Rattle.std.specs.Prelude.{pos}
use Rattle.std.specs.Fmt.{digits}
use Rattle.tu_base.specs.Shapes.{all_words}
use Rattle.tu_base.specs.declared.shape.Shape.{Shape}
use Rattle.tu_base.specs.declared.kind.Kind.TheVariants as kind
use Rattle.tu_base.specs.declared.shape.Shape.TheVariants.{Array, Text as text_shape}
use Rattle.tu_base.specs.declared.operator.Relation.TheVariants.{Greater}
use Rattle.tu_base.specs.declared.operator.Binary.TheVariants.{Divide}
use Rattle.tu_core.specs.Targets.{ints}
use Rattle.tu_core.specs.declared.names.PlaceKind.TheVariants.{AnyText, AnyArray}
use Rattle.tu_core.specs.declared.names.Variable.TheVariants.{Global, Local}
use Rattle.tu_core.specs.declared.names.LocalName.TheVariants.{Declared, BoundName, Counter, Caught}
use Rattle.tu_core.specs.declared.names.Formal.{Formal}
use Rattle.tu_core.specs.declared.names.Formal.TheVariants.{ByValue, ByCopy, ByVar}
use Rattle.tu_core.specs.declared.targets.Index.TheVariants.{Open}
use Rattle.tu_core.specs.declared.targets.Size.TheVariants.{AtName}
use Rattle.tu_core.specs.declared.targets.Target.TheVariants.{TakesScalar, TakesText}
use Rattle.tu_core.specs.declared.claim.Claim.TheVariants.{Asserts}
use Rattle.tu_core.specs.Core.{Bound, OpenItem, End, NoSubscript, Subscript, Absent, WithParts, AndStart, NoStart, AText, NoActual, Lent, NoneShown, FromTo, Simply, Assign, For, Begin, Empty, Then, Bind, Handles, Routine, Program}
use Rattle.tu_core.specs.Rooms.{main_room, room_of}
use Rattle.tu_meaning.specs.Steps.{◌>>=◌, give, raise, stop, lost, look, change, consult, pay, happen, note, turn, take_room, scope, handled}
use Rattle.tu_meaning.specs.Meaning.{Ends, Stops}
use Rattle.tu_meaning.proofs.rows.Making.{within, comes, line, on, span, int_shape, int, number, plus, less, calculated, compare, global, local, global_at, local_at, item, item_at, show, text, show_text, put, set, if_then, call, gives, check, given, lent, answer, var, var_from, from, procedure, function, by_value, by_var, program, simple, only}

abbrev narrow : Formal
narrow = ByValue (TakesScalar (span 1 3))

abbrev pub two_ints : List Shape
two_ints = int_shape ∷ (Array (span 1 2 ∷ []) 0 ∷ [])

-- var a : array 1 .. 2 of int := init (1, 2)
-- var i : int := 2
-- begin
--   bind var x to a (i)
--   i := 1
--   x := 9
-- end
-- put a (1), " ", a (2)
abbrev pub bound : Program
bound = record (program two_ints (1 ∷ (0 ∷ [])) []
    (var_from 1 1 (Global 0 ∷ []) (WithParts 1 (AndStart (from (int 1)) (AndStart (from (int 2)) NoStart))) (var_from 2 0 (Global 1 ∷ []) (from (int 2))
    (Then (Begin (on 3) (Bind (on 4) 0 true (global_at 0 (item_at 1 (number (global 1)))) (Then (set 5 (global 1) (int 1)) (only (set 6 (local 0) (int 9))))))
    (only (put 8 (show (number (global_at 0 (item 1 1))) (show_text (text (codes " ")) (show (number (global_at 0 (item 1 2))) NoneShown)))))))))
    { locals = BoundName 0 ∷ [] }

-- The path of a bind is evaluated once. Line 1: 3, 3 and two words. Line 2: 3. Line 3: the statement, and a join, since x is changed. Line 4: the
-- name and a path of 3. Lines 5 and 6: 3 each. Line 8: 1 + 36 + 3 + 36 + 1.
row_bound : within 9 bound [] ≡ comes (line (codes "1 9")) Ends 100
unfolding ◌>>=◌ give raise stop lost look change consult pay happen note turn take_room scope handled digits
row_bound = refl

-- 64, the two words of x, and 12 for each of 25 nodes and for the join
room_bound : main_room (all_words bound.shapes) bound ≡ 378
room_bound = refl

-- var a : int := 1
-- begin bind var y to a, var x to y x := 7 end
-- put a
-- The statement has two joins: x is changed, and so is y, the root of a `bind var`. Line 1: 3. Line 2: 3, two names and two roots, an assignment of
-- 3. Line 3: 36.
row_bound_twice : within 9 (record (simple (0 ∷ []) [] (var_from 1 0 (Global 0 ∷ []) (from (int 1))
    (Then (Begin (on 2) (Bind (on 2) 0 true (global 0) (Bind (on 2) 1 true (local 0) (only (set 2 (local 1) (int 7)))))) (only (put 3 (show (number (global 0)) NoneShown)))))) { locals = BoundName 0 ∷ (BoundName 0 ∷ []) }) [] ≡ comes (line (codes "7")) Ends 49
unfolding ◌>>=◌ give raise stop lost look change consult pay happen note turn take_room scope handled digits
row_bound_twice = refl

-- var a : int := 1
-- procedure p
--   handler (k)
--     put a
--   end handler
--   begin
--     bind var x to a
--     x := 7
--     assert false
--   end
-- end p
-- p
-- A bind is copied back where an exception leaves its scope. Line 1: 3. Line 12: the statement, a turn, the handler 2; `begin` and its join 2, the
-- name and the root 2, 3, 2; the taking 1; line 4 with 2 nodes, 32 and two bytes.
row_bound_left : within 9 (simple (0 ∷ []) (record (procedure [] (Caught ∷ (BoundName 0 ∷ []))
    (only (Begin (on 6) (Bind (on 7) 1 true (global 0) (Then (set 8 (local 1) (int 7)) (only (check 9 Asserts (int 0))))))) 11) { handler = Handles (on 3) 0 (only (put 4 (show (number (global 0)) NoneShown))) } ∷ [])
    (var_from 1 0 (Global 0 ∷ []) (from (int 1)) (only (call 12 0 NoActual)))) [] ≡ comes (line (codes "7")) Ends 53
unfolding ◌>>=◌ give raise stop lost look change consult pay happen note turn take_room scope handled digits
row_bound_left = refl

-- function total (a : array 1 .. * of int) : int
--   var t : int := 0
--   for i : 1 .. upper (a)
--     t := t + a (i)
--   end for
--   result t
-- end total
-- The formal is a location; t is local 1, and i local 2.
abbrev pub total : Routine
total = record (function (ByCopy (AnyArray (Open (pos 1) ∷ []) 0) ∷ []) (Declared 0 ∷ (Counter ints ∷ [])) (var_from 2 0 (Local 1 ∷ []) (from (int 0))
    (Then (For (on 3) 2 false (FromTo (int 1) (Bound 0 true (Open (pos 1) ∷ []) (local 0) Absent)) None
    (only (set 4 (local 1) (plus (number (local 1)) (number (OpenItem (on 4) (Local 0) (Open (pos 1) ∷ []) (Subscript None (number (local 2)) NoSubscript) End))))))
    (only (gives 6 (number (local 1)))))) 7) { stars = 1 }

-- var b : array 1 .. 3 of int := init (4, 5, 6)
-- put total (b)
abbrev pub totalled : Program
totalled = program (int_shape ∷ (Array (span 1 3 ∷ []) 0 ∷ [])) (1 ∷ []) (total ∷ [])
    (var_from 8 1 (Global 0 ∷ []) (WithParts 1 (AndStart (from (int 4)) (AndStart (from (int 5)) (AndStart (from (int 6)) NoStart))))
    (only (put 9 (show (answer 0 (Lent (on 9) false (Some (pos 3 ∷ [])) (global 0) NoActual)) NoneShown))))

-- 64; the formal 2, the result, t and i; and 12 for each of 16 nodes and the join of the `for`: the `*`, t and its start 2, `for` and its bounds 4,
-- the assignment 7, `result` and its value 2
room_total : room_of totalled.shapes (all_words totalled.shapes) totalled.routines total ≡ 273
room_total = refl

-- Line 8: 4, 4 and three words. Line 9: the statement, the call, b; a turn, a formal; t 3; the `for`, its join, a literal, `upper` and a; three rounds
-- of a turn, a join and 7 nodes; `result` 2; 32 and three bytes.
row_totalled : within 9 totalled [] ≡ comes (line (codes "15")) Ends 88
unfolding ◌>>=◌ give raise stop lost look change consult pay happen note turn take_room scope handled digits
row_totalled = refl

-- procedure set (var s : string (*))
--   s := "abc"
-- end set
-- var t : string (2)
-- set (t)
-- The size of an open formal is that of its actual. Line 4: the name and two words. Line 5: 2 nodes, a turn, a formal; the statement, the path and
-- the literal 3.
row_open_size : within 9 (program (text_shape 2 ∷ []) (0 ∷ []) (procedure (ByVar (on 0) AnyText ∷ []) [] (only (Simply (on 2) (Assign (TakesText AtName) (local 0) (AText (text (codes "abc")))))) 3 ∷ [])
    (var 4 0 (Global 0 ∷ []) (only (call 5 0 (Lent (on 5) true (Some (pos 2 ∷ [])) (global 0) NoActual))))) [] ≡ comes [] (Stops kind.StringSize 2) 10
unfolding ◌>>=◌ give raise stop lost look change consult pay happen note turn take_room scope handled digits
row_open_size = refl

-- procedure r (var a : array 1 .. 1000 of int, d : int)
--   a (1) := d
--   if d > 1 then
--     r (a, d - 1)
--   end if
-- end r
-- var b : array 1 .. 1000 of int
-- r (b, 10)
-- put b (1)
abbrev handed_on : Program
handed_on = program (int_shape ∷ (Array (span 1 1000 ∷ []) 0 ∷ [])) (1 ∷ [])
    (procedure (by_var 1 ∷ (by_value ∷ [])) [] (Then (set 2 (local_at 0 (item 1 1)) (number (local 1)))
    (only (if_then 3 (compare Greater (number (local 1)) (int 1)) (only (call 4 0 (lent (local 0) (given (less (number (local 1)) (int 1)) NoActual))))))) 6 ∷ [])
    (var 7 1 (Global 0 ∷ []) (Then (call 8 0 (lent (global 0) (given (int 10) NoActual))) (only (put 9 (show (number (global_at 0 (item 1 1))) NoneShown)))))

-- Line 7: the name and 1000 words. Line 8: 3 nodes; ten calls of a turn, two formals, 5 and 4; nine of them 5 nodes more. Line 9: 4 nodes, 32, two
-- bytes. What is lent costs nothing by its size.
row_handed_on : within 20 handed_on [] ≡ comes (line (codes "1")) Ends 1207
unfolding ◌>>=◌ give raise stop lost look change consult pay happen note turn take_room scope handled digits
row_handed_on = refl

-- var a : array 1 .. 1000 of int
-- procedure touch (var x : array 1 .. 1000 of int)
--   x (1) := 1
-- end touch
-- for i : 1 .. 10
--   touch (a)
-- end for
-- put a (1)
-- 1001, then 3, ten rounds of 10 (a turn, 2 nodes, the turn of the call, a formal, the assignment 5), and 38
row_touched : within 30 (record (program (int_shape ∷ (Array (span 1 1000 ∷ []) 0 ∷ [])) (1 ∷ []) (procedure (by_var 1 ∷ []) [] (only (set 3 (local_at 0 (item 1 1)) (int 1))) 4 ∷ [])
    (var 1 1 (Global 0 ∷ []) (Then (For (on 5) 0 false (FromTo (int 1) (int 10)) None (only (call 6 0 (lent (global 0) NoActual)))) (only (put 8 (show (number (global_at 0 (item 1 1))) NoneShown)))))) { locals = Counter ints ∷ [] }) [] ≡ comes (line (codes "1")) Ends 1142
unfolding ◌>>=◌ give raise stop lost look change consult pay happen note turn take_room scope handled digits
row_touched = refl

-- var i : int := 1
-- var a : array 1 .. 2 of int := init (3, 4)
-- procedure p (var x : int)
--   i := 2
--   x := 9
-- end p
-- p (a (i))
-- put a (1), a (2)
-- The path of an actual is evaluated once, also for the copying back. Line 1: 3. Line 2: 3, 3 and two words. Line 7: the statement and a path of 3,
-- a turn, a formal, two assignments of 3. Line 8: 1 + 36 + 36 + 1.
row_path_once : within 9 (program two_ints (0 ∷ (1 ∷ [])) (procedure (by_var 0 ∷ []) [] (Then (set 4 (global 0) (int 2)) (only (set 5 (local 0) (int 9)))) 6 ∷ [])
    (var_from 1 0 (Global 0 ∷ []) (from (int 1)) (var_from 2 1 (Global 1 ∷ []) (WithParts 1 (AndStart (from (int 3)) (AndStart (from (int 4)) NoStart)))
    (Then (call 7 0 (lent (global_at 1 (item_at 1 (number (global 0)))) NoActual)) (only (put 8 (show (number (global_at 1 (item 1 1))) (show (number (global_at 1 (item 1 2))) NoneShown)))))))) [] ≡ comes (line (codes "94")) Ends 97
unfolding ◌>>=◌ give raise stop lost look change consult pay happen note turn take_room scope handled digits
row_path_once = refl

-- procedure p (x : 1 .. 3, y : int)
-- end p
-- p (4, 7 div 0)
-- A constant actual is tested as its formal receives it, behind the later actuals: 2 nodes and 3.
-- p (4, 7)
-- It then has the line of the call: 3 nodes, and the turn.
row_last_actual : within 9 (simple [] (procedure (narrow ∷ (by_value ∷ [])) [] Empty 2 ∷ []) (only (call 3 0 (given (int 4) (given (calculated Divide (int 7) (int 0)) NoActual))))) [] ≡ comes [] (Stops kind.Divide 3) 5
unfolding ◌>>=◌ give raise stop lost look change consult pay happen note turn take_room scope handled digits
row_last_actual = refl

row_as_received : within 9 (simple [] (procedure (narrow ∷ (by_value ∷ [])) [] Empty 2 ∷ []) (only (call 3 0 (given (int 4) (given (int 7) NoActual))))) [] ≡ comes [] (Stops kind.Range 3) 4
unfolding ◌>>=◌ give raise stop lost look change consult pay happen note turn take_room scope handled digits
row_as_received = refl
