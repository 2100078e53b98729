-- Worked rows on scalars and statements. The units beside a row are counted from the table of units, in the order of events: of each
-- statement its nodes, then what it does besides.
use Rattle.std.proofs.Common.{◌≡◌, true, false, [], ◌∷◌, ◌++◌, None, codes, refl}
use Rattle.std.specs.Prelude.{pos}
use Rattle.std.specs.Fmt.{digits}
use Rattle.tu_base.specs.declared.kind.Kind.TheVariants as kind
use Rattle.tu_base.specs.declared.shape.Shape.TheVariants.{Scalar as scalar_shape}
use Rattle.tu_base.specs.declared.operator.Relation.TheVariants.{Equal, Greater}
use Rattle.tu_base.specs.declared.operator.Unary.TheVariants.{Plus}
use Rattle.tu_base.specs.declared.operator.Binary.TheVariants.{Divide, Modulo}
use Rattle.tu_base.specs.declared.operator.Junction.TheVariants.{And}
use Rattle.tu_core.specs.Targets.{ints}
use Rattle.tu_core.specs.declared.names.Variable.TheVariants.{Global}
use Rattle.tu_core.specs.declared.names.LocalName.TheVariants.{Counter}
use Rattle.tu_core.specs.declared.targets.Target.TheVariants.{TakesScalar}
use Rattle.tu_core.specs.Core.{Put, Prefixed, Chain, NoLink, Decide, Absent, Present, WithValue, AScalar, FromTo, NoneShown, ShowInt, ShowTruth, Exit, Simply, Loop, For, Case, Empty, Then, Default, Labelled, Program}
use Rattle.tu_meaning.specs.Steps.{Began, ◌>>=◌, give, raise, stop, lost, look, change, consult, pay, happen, note, turn, take_room, scope, handled}
use Rattle.tu_meaning.specs.Meaning.{Ends, Stops, GoesOn}
use Rattle.tu_meaning.specs.Programs.{meaning}
use Rattle.tu_meaning.proofs.rows.Making.{within, comes, bytes, line, no_files, on, span, int_shape, int, minus, number, plus, less, times, calculated, compare, global, local, show, text, show_text, put, put_on, set, if_then, var, var_from, from, program, simple, only}
use Rattle.tu_core.specs.Rooms.{main_room}
use Rattle.tu_base.specs.Shapes.{all_words}

-- put 1 + 2 * 3
abbrev sum : Program
sum = simple [] [] (only (put 1 (show (plus (int 1) (times (int 2) (int 3))) NoneShown)))

-- The statement, two operators and three literals are 6, an int to its text 32, its byte and the line end 2.
row_sum : within 9 sum [] ≡ comes (line (codes "7")) Ends 40
unfolding ◌>>=◌ give raise stop lost look change consult pay happen note turn take_room scope handled digits
row_sum = refl

-- the empty source
row_empty : within 9 (simple [] [] Empty) [] ≡ comes [] Ends 0
unfolding ◌>>=◌ give raise stop lost look change consult pay happen note turn take_room scope handled digits
row_empty = refl

-- put 2147483647 + 1
abbrev too_large : Program
too_large = simple [] [] (only (put 1 (show (plus (int 2147483647) (int 1)) NoneShown)))

-- the statement, the operator and two literals; no text was made
row_too_large : within 9 too_large [] ≡ comes [] (Stops kind.Overflow 1) 4
unfolding ◌>>=◌ give raise stop lost look change consult pay happen note turn take_room scope handled digits
row_too_large = refl

-- put "a" ..
-- put 7 div 0
abbrev divided : Program
divided = simple [] [] (Then (put_on 1 (show_text (text (codes "a")) NoneShown)) (only (put 2 (show (calculated Divide (int 7) (int 0)) NoneShown))))

-- Line 1: the statement and the literal 2, the byte of the operand 1, the byte that is put 1. Line 2: 4 nodes.
row_divided : within 9 divided [] ≡ comes (bytes (codes "a")) (Stops kind.Divide 2) 8
unfolding ◌>>=◌ give raise stop lost look change consult pay happen note turn take_room scope handled digits
row_divided = refl

-- The same with the bytes at which its two statements begin.
abbrev divided_at : Program
divided_at = simple [] [] (Then (Simply (record { start = 0; line = 1 }) (Put Absent (show_text (text (codes "a")) NoneShown) false)) (only (Simply (record { start = 11; line = 2 }) (Put Absent (show (calculated Divide (int 7) (int 0)) NoneShown) true))))

-- The log has a note for each statement that began, also for the one that raised.
row_divided_at : meaning divided_at [] no_files 9 ≡ record { trace = bytes (codes "a"); standing = Stops kind.Divide 2; units = 8; log = Began 0 ∷ Began 11 ∷ [] }
unfolding ◌>>=◌ give raise stop lost look change consult pay happen note turn take_room scope handled digits
row_divided_at = refl

-- var x : int
-- put x
abbrev unset_name : Program
unset_name = simple (0 ∷ []) [] (var 1 0 (Global 0 ∷ []) (only (put 2 (show (number (global 0)) NoneShown))))

-- the name and its word 2, the statement and the name 2
row_unset_name : within 9 unset_name [] ≡ comes [] (Stops kind.Unset 2) 4
unfolding ◌>>=◌ give raise stop lost look change consult pay happen note turn take_room scope handled digits
row_unset_name = refl

-- put -7 div 2, " ", -7 mod 2
abbrev toward_zero : Program
toward_zero = simple [] [] (only (put 1 (show (calculated Divide (minus (int 7)) (int 2)) (show_text (text (codes " ")) (show (calculated Modulo (minus (int 7)) (int 2)) NoneShown)))))

-- The statement 1. Each int part: 4 nodes, 32, two bytes. The blank: its literal, its byte, and the byte that is put. The line end 1.
row_toward_zero : within 9 toward_zero [] ≡ comes (line (codes "-3 -1")) Ends 81
unfolding ◌>>=◌ give raise stop lost look change consult pay happen note turn take_room scope handled digits
row_toward_zero = refl

-- put -2147483647 - 1
row_too_small : within 9 (simple [] [] (only (put 1 (show (less (minus (int 2147483647)) (int 1)) NoneShown)))) [] ≡ comes [] (Stops kind.Overflow 1) 5
unfolding ◌>>=◌ give raise stop lost look change consult pay happen note turn take_room scope handled digits
row_too_small = refl

-- put 2 - 3 * 4 - 5
row_from_left : within 9 (simple [] [] (only (put 1 (show (less (less (int 2) (times (int 3) (int 4))) (int 5)) NoneShown)))) [] ≡ comes (line (codes "-15")) Ends 44
unfolding ◌>>=◌ give raise stop lost look change consult pay happen note turn take_room scope handled digits
row_from_left = refl

-- put 2 - 3 * (4 - 5)
row_in_brackets : within 9 (simple [] [] (only (put 1 (show (less (int 2) (times (int 3) (less (int 4) (int 5)))) NoneShown)))) [] ≡ comes (line (codes "5")) Ends 42
unfolding ◌>>=◌ give raise stop lost look change consult pay happen note turn take_room scope handled digits
row_in_brackets = refl

-- var i := 1
-- var s := 0
-- loop
--   exit when i > 10
--   s := s + i
--   i := i + 1
-- end loop
-- put s
abbrev counted : Program
counted = simple (0 ∷ (0 ∷ [])) [] (var_from 1 0 (Global 0 ∷ []) (from (int 1)) (var_from 2 0 (Global 1 ∷ []) (from (int 0))
    (Then (Loop (on 3) None (Then (Simply (on 4) (Exit (Present (compare Greater (number (global 0)) (int 10)))))
    (Then (set 5 (global 1) (plus (number (global 1)) (number (global 0))))
    (only (set 6 (global 0) (plus (number (global 0)) (int 1)))))))
    (only (put 8 (show (number (global 1)) NoneShown))))))

-- Two declarations of 3. The loop 1. Ten rounds of 15 and one of 5: a turn, `exit` 4, two assignments of 5. The last line 37.
row_counted : within 20 counted [] ≡ comes (line (codes "55")) Ends 199
unfolding ◌>>=◌ give raise stop lost look change consult pay happen note turn take_room scope handled digits
row_counted = refl

-- The eleventh round is the one that ends the loop: with ten turns the run goes on, and has cost 6 + 1 + 150.
row_counted_short : within 10 counted [] ≡ comes [] GoesOn 157
unfolding ◌>>=◌ give raise stop lost look change consult pay happen note turn take_room scope handled digits
row_counted_short = refl

-- loop
-- end loop
row_forever : within 5 (simple [] [] (only (Loop (on 1) None Empty))) [] ≡ comes [] GoesOn 6
unfolding ◌>>=◌ give raise stop lost look change consult pay happen note turn take_room scope handled digits
row_forever = refl

-- type D : enum (a, b)
-- var d : D := D.b
-- case d of
--   label D.a : put 1
--   label : put ord (d)
-- end case
-- for decreasing i : 3 .. 1
--   put i : 3 ..
-- end for
-- put ""
abbrev cases : Program
cases = record (program (int_shape ∷ (scalar_shape (span 0 1) ∷ [])) (1 ∷ []) [] (var_from 2 1 (Global 0 ∷ []) (WithValue (TakesScalar (span 0 1)) (AScalar (int 1)))
    (Then (Case (on 3) (number (global 0)) (Labelled (pos 0 ∷ []) (only (put 4 (show (int 1) NoneShown))) (Default (only (put 5 (show (Prefixed 0 (Plus ∷ []) (number (global 0))) NoneShown))))))
    (Then (For (on 7) 0 true (FromTo (int 3) (int 1)) None (only (put_on 8 (ShowInt (number (local 0)) (Present (int 3)) NoneShown))))
    (only (put 10 (show_text (text []) NoneShown))))))) { locals = Counter ints ∷ [] }

-- The declaration 3. `case`, its value, a label and an arm 4, the arm's line 3 + 32 + 2. `for` and its bounds 3, three rounds of 39: a turn,
-- 3 nodes, 32, three bytes. The last line 3.
row_cases : within 20 cases [] ≡ comes (line (codes "1") ++ line (codes "  3  2  1")) Ends 167
unfolding ◌>>=◌ give raise stop lost look change consult pay happen note turn take_room scope handled digits
row_cases = refl

-- 64, the index, and 12 for each of 19 nodes: 2, `case` 2, two arms 2, their lines 2 and 3, `for` 3, 3, 2
room_cases : main_room (all_words cases.shapes) cases ≡ 293
room_cases = refl

-- var k : 1 .. 3 := 4
abbrev out_of_range : Program
out_of_range = program (scalar_shape (span 1 3) ∷ []) (0 ∷ []) [] (var_from 1 0 (Global 0 ∷ []) (WithValue (TakesScalar (span 1 3)) (AScalar (int 4))) Empty)

row_out_of_range : within 9 out_of_range [] ≡ comes [] (Stops kind.Range 1) 3
unfolding ◌>>=◌ give raise stop lost look change consult pay happen note turn take_room scope handled digits
row_out_of_range = refl

-- var n : int := 2
-- for i : 1 .. n
--   n := 3
--   put i
-- end for
abbrev bounds_once : Program
bounds_once = record (simple (0 ∷ []) [] (var_from 1 0 (Global 0 ∷ []) (from (int 2))
    (only (For (on 2) 0 false (FromTo (int 1) (number (global 0))) None (Then (set 3 (global 0) (int 3)) (only (put 4 (show (number (local 0)) NoneShown)))))))) { locals = Counter ints ∷ [] }

-- It would fail if the bounds were evaluated each round. The declaration 3, `for` and its bounds 3, two rounds of 1 + 3 + 36.
row_bounds_once : within 9 bounds_once [] ≡ comes (line (codes "1") ++ line (codes "2")) Ends 86
unfolding ◌>>=◌ give raise stop lost look change consult pay happen note turn take_room scope handled digits
row_bounds_once = refl

-- for i : 2 .. 1
--   put i
-- end for
row_no_round : within 9 (record (simple [] [] (only (For (on 1) 0 false (FromTo (int 2) (int 1)) None (only (put 2 (show (number (local 0)) NoneShown)))))) { locals = Counter ints ∷ [] }) [] ≡ comes [] Ends 3
unfolding ◌>>=◌ give raise stop lost look change consult pay happen note turn take_room scope handled digits
row_no_round = refl

-- put false and 1 div 0 = 1
abbrev decided_left : Program
decided_left = simple [] [] (only (put 1 (ShowTruth (Chain 0 (int 0) (Decide And (compare Equal (calculated Divide (int 1) (int 0)) (int 1)) NoLink)) Absent NoneShown)))

-- It would fail if the right side of `and` were always evaluated. The statement, `and` and the literal 3, five bytes and the line end.
row_decided_left : within 9 decided_left [] ≡ comes (line (codes "false")) Ends 9
unfolding ◌>>=◌ give raise stop lost look change consult pay happen note turn take_room scope handled digits
row_decided_left = refl

-- for i : 1 .. 2
--   var x : int
--   if i = 2 then
--     put x
--   end if
--   x := i
-- end for
abbrev unset_again : Program
unset_again = record (simple (0 ∷ []) [] (only (For (on 1) 0 false (FromTo (int 1) (int 2)) None (var 2 0 (Global 0 ∷ [])
    (Then (if_then 3 (compare Equal (number (local 0)) (int 2)) (only (put 4 (show (number (global 0)) NoneShown))))
    (only (set 6 (global 0) (number (local 0))))))))) { locals = Counter ints ∷ [] }

-- It would fail if a declaration did not unset. `for` and its bounds 3. Round 1: a turn, the name and its word, `if` 4, the assignment 3. Round
-- 2: a turn, 2, 4, and the statement and the name.
row_unset_again : within 9 unset_again [] ≡ comes [] (Stops kind.Unset 4) 22
unfolding ◌>>=◌ give raise stop lost look change consult pay happen note turn take_room scope handled digits
row_unset_again = refl
