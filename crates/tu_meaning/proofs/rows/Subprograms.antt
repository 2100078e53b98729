-- Worked rows on subprograms: calls, contracts, rooms and pairs of actuals. The units beside a row are counted from the table of units.
use Rattle.std.proofs.Common.{◌≡◌, ℕ, true, List, [], ◌∷◌, Some, codes, refl}
use Rattle.std.specs.Fmt.{digits}
use Rattle.tu_base.specs.Shapes.{all_words}
use Rattle.tu_base.specs.declared.kind.Kind.TheVariants as kind
use Rattle.tu_base.specs.declared.shape.Shape.{Shape}
use Rattle.tu_base.specs.declared.shape.Shape.TheVariants.{Array}
use Rattle.tu_base.specs.declared.operator.Relation.TheVariants.{Equal, Greater, GreaterOrEqual, LessOrEqual}
use Rattle.tu_base.specs.declared.operator.Binary.TheVariants.{Divide}
use Rattle.tu_core.specs.declared.names.Variable.TheVariants.{Global, Local}
use Rattle.tu_core.specs.declared.names.LocalName.TheVariants.{Declared}
use Rattle.tu_core.specs.declared.names.CallResult.TheVariants.{Nothing}
use Rattle.tu_core.specs.declared.claim.Claim.TheVariants.{Requires, Ensures, Keeps}
use Rattle.tu_core.specs.Core.{WithParts, AndStart, NoStart, NoActual, NoneShown, Simply, Do, Calls, Module, Empty, Then, Routine, Program}
use Rattle.tu_core.specs.Rooms.{room_of, main_room}
use Rattle.tu_meaning.specs.Steps.{◌>>=◌, give, raise, stop, lost, look, change, consult, pay, happen, note, turn, take_room, scope, handled}
use Rattle.tu_meaning.specs.Meaning.{Ends, Stops, GoesOn}
use Rattle.tu_meaning.proofs.rows.Making.{within, comes, line, on, span, int_shape, int, minus, number, plus, less, times, calculated, compare, global, local, global_at, item, item_at, show, text, show_text, put, set, call, gives, check, if_then, given, lent, answer, var, var_from, constant, from, routine, procedure, function, by_value, by_var, program, simple, only}

-- procedure swap (var x, y : int)
--   const t : int := x
--   x := y
--   y := t
-- end swap
abbrev swap : Routine
swap = procedure (by_var 0 ∷ (by_var 0 ∷ [])) (Declared 0 ∷ []) (constant 2 (Local 2) (from (number (local 0))) (Then (set 3 (local 0) (number (local 1))) (only (set 4 (local 1) (number (local 2)))))) 5

-- var a : array 1 .. 2 of int := init (5, 6)
-- swap (a (1), a (2))
-- put a (1), " ", a (2)
-- var i : int := 1
-- var j : int := 1
-- swap (a (i), a (j))
abbrev swapped : Program
swapped = program (int_shape ∷ (Array (span 1 2 ∷ []) 0 ∷ [])) (1 ∷ (0 ∷ (0 ∷ []))) (swap ∷ [])
    (var_from 6 1 (Global 0 ∷ []) (WithParts 1 (AndStart (from (int 5)) (AndStart (from (int 6)) NoStart)))
    (Then (call 7 0 (lent (global_at 0 (item 1 1)) (lent (global_at 0 (item 1 2)) NoActual)))
    (Then (put 8 (show (number (global_at 0 (item 1 1))) (show_text (text (codes " ")) (show (number (global_at 0 (item 1 2))) NoneShown))))
    (var_from 9 0 (Global 1 ∷ []) (from (int 1)) (var_from 10 0 (Global 2 ∷ []) (from (int 1))
    (only (call 11 0 (lent (global_at 0 (item_at 1 (number (global 1)))) (lent (global_at 0 (item_at 1 (number (global 2)))) NoActual)))))))))

-- Line 6: the name and its words 3, `init` and two literals 3, a copy of two words. Line 7: 7 nodes, a turn, two formals, and the body: a name
-- and a value 2, two assignments 6. Line 8: 1 + 36 + 3 + 36 + 1. Lines 9 and 10: 3 each. Line 11: 7 nodes and the one noted test.
row_swapped : within 9 swapped [] ≡ comes (line (codes "6 5")) (Stops kind.Overlap 11) 117
unfolding ◌>>=◌ give raise stop lost look change consult pay happen note turn take_room scope handled digits
row_swapped = refl

-- procedure p (var x, y : int, d : int)
-- end p
-- var a : array 1 .. 2 of int
-- var i : int := 1
-- p (a (i), a (i), 7 div 0)
abbrev last_first : Program
last_first = program (int_shape ∷ (Array (span 1 2 ∷ []) 0 ∷ [])) (1 ∷ (0 ∷ [])) (procedure (by_var 0 ∷ (by_var 0 ∷ (by_value ∷ []))) [] Empty 2 ∷ [])
    (var 3 1 (Global 0 ∷ []) (var_from 4 0 (Global 1 ∷ []) (from (int 1))
    (only (call 5 0 (lent (global_at 0 (item_at 1 (number (global 1)))) (lent (global_at 0 (item_at 1 (number (global 1)))) (given (calculated Divide (int 7) (int 0)) NoActual)))))))

-- It would fail if the pair were tested before the last actual is evaluated. Lines 3 and 4: 3 each. Line 5: the statement, two paths of 3, and
-- 3 nodes of the value; no test is paid.
row_last_first : within 9 last_first [] ≡ comes [] (Stops kind.Divide 5) 16
unfolding ◌>>=◌ give raise stop lost look change consult pay happen note turn take_room scope handled digits
row_last_first = refl

-- procedure p (d : int)
--   if d > 1 then
--     p (d - 1)
--   end if
-- end p
abbrev down : Routine
down = procedure (by_value ∷ []) [] (only (if_then 2 (compare Greater (number (local 0)) (int 1)) (only (call 3 0 (given (less (number (local 0)) (int 1)) NoActual))))) 5

-- p (3)
abbrev descends : Program
descends = simple [] (down ∷ []) (only (call 6 0 (given (int 3) NoActual)))

-- Line 6: 2 nodes. Three calls: a turn, a formal, and `if` 4; two of them call again, 4 nodes.
row_descends : within 3 descends [] ≡ comes [] Ends 28
unfolding ◌>>=◌ give raise stop lost look change consult pay happen note turn take_room scope handled digits
row_descends = refl

-- the third call is the one that ends: with two turns the run goes on where it would begin
row_descends_short : within 2 descends [] ≡ comes [] GoesOn 22
unfolding ◌>>=◌ give raise stop lost look change consult pay happen note turn take_room scope handled digits
row_descends_short = refl

-- procedure p (d : int)
--   var a : array 1 .. SIZE of int
--   if d > 1 then
--     p (d - 1)
--   end if
-- end p
-- p (8)
abbrev wide : (size : ℕ) → Routine
wide size = procedure (by_value ∷ []) (Declared 1 ∷ []) (var 2 1 (Local 1 ∷ []) (only (if_then 3 (compare Greater (number (local 0)) (int 1)) (only (call 4 0 (given (less (number (local 0)) (int 1)) NoActual)))))) 6

abbrev wide_shapes : (size : ℕ) → List Shape
wide_shapes size = int_shape ∷ (Array (span 1 size ∷ []) 0 ∷ [])

abbrev wide_program : (size : ℕ) → Program
wide_program size = program (wide_shapes size) [] (wide size ∷ []) (only (call 7 0 (given (int 8) NoActual)))

-- The main program's room is 64 + 12 * 2, that of `p` is 64 + 1 + 1048392 + 12 * 9, and 88 + 8 * 1048565 = 8388608 just fits.
rooms_wide : room_of (wide_shapes 1048392) (all_words (wide_shapes 1048392)) (wide 1048392 ∷ []) (wide 1048392) ≡ 1048565
rooms_wide = refl

main_room_wide : main_room (all_words (wide_shapes 1048392)) (wide_program 1048392) ≡ 88
main_room_wide = refl

-- Line 7: 2 nodes. Each call: a turn, a formal, the name and its words 1 + 1048392, `if` 4; seven of them 4 nodes more.
row_fits : within 9 (wide_program 1048392) [] ≡ comes [] Ends 8387222
unfolding ◌>>=◌ give raise stop lost look change consult pay happen note turn take_room scope handled digits
row_fits = refl

-- With a word more the eighth call does not fit: seven calls of 7 + 4 + 1048393, line 7, and the turn of the call that found no room.
row_does_not_fit : within 9 (wide_program 1048393) [] ≡ comes [] (Stops kind.Storage 4) 7338831
unfolding ◌>>=◌ give raise stop lost look change consult pay happen note turn take_room scope handled digits
row_does_not_fit = refl

-- function fact (n : int) : int
--   pre n >= 0
--   if n = 0 then
--     result 1
--   end if
--   result n * fact (n - 1)
-- end fact
abbrev factorial : Routine
factorial = record (function (by_value ∷ []) [] (Then (if_then 3 (compare Equal (number (local 0)) (int 0)) (only (gives 4 (int 1))))
    (only (gives 6 (times (number (local 0)) (answer 0 (given (less (number (local 0)) (int 1)) NoActual)))))) 7) { before = only (check 2 Requires (compare GreaterOrEqual (number (local 0)) (int 0))) }

abbrev words_of_int : List ℕ
words_of_int = 1 ∷ []

-- 64, a formal, a result, and 12 for each of 17 nodes: `pre` 4, `if` 4, `result` 2 and 7
room_factorial : room_of (int_shape ∷ []) words_of_int (factorial ∷ []) factorial ≡ 270
room_factorial = refl

-- put fact (12)
-- put fact (13)
abbrev factorials : Program
factorials = simple [] (factorial ∷ []) (Then (put 8 (show (answer 0 (given (int 12) NoActual)) NoneShown)) (only (put 9 (show (answer 0 (given (int 13) NoActual)) NoneShown))))

-- A call with n above 0 costs 17: a turn, a formal, `pre` 4, `if` 4, `result` and its value 7; with 0 it costs 12. Line 8: 3 nodes, 12 * 17 + 12,
-- 32, ten bytes. Line 9: 3 nodes, 13 * 17 + 12, and the last product raises.
row_factorials : within 30 factorials [] ≡ comes (line (codes "479001600")) (Stops kind.Overflow 6) 497
unfolding ◌>>=◌ give raise stop lost look change consult pay happen note turn take_room scope handled digits
row_factorials = refl

-- put fact (-1)
-- It would fail if the exception had the line of the call in place of that of the clause.
row_below_zero : within 9 (simple [] (factorial ∷ []) (only (put 8 (show (answer 0 (given (minus (int 1)) NoActual)) NoneShown)))) [] ≡ comes [] (Stops kind.Pre 2) 10
unfolding ◌>>=◌ give raise stop lost look change consult pay happen note turn take_room scope handled digits
row_below_zero = refl

-- procedure p (x, y : int)
--   put x + y
-- end p
-- p (7 div 0, 2147483647 + 1)
-- It would fail if the arguments were evaluated from the right.
row_from_the_left : within 9 (simple [] (procedure (by_value ∷ (by_value ∷ [])) [] (only (put 2 (show (plus (number (local 0)) (number (local 1))) NoneShown))) 3 ∷ [])
    (only (call 4 0 (given (calculated Divide (int 7) (int 0)) (given (plus (int 2147483647) (int 1)) NoActual))))) [] ≡ comes [] (Stops kind.Divide 4) 4
unfolding ◌>>=◌ give raise stop lost look change consult pay happen note turn take_room scope handled digits
row_from_the_left = refl

-- function f : int
--   put 1
-- end f
-- put f
-- The checks refuse a `put` in a function; the end of a function without `result` is what is looked at.
row_no_result : within 9 (simple [] (function [] [] (only (put 2 (show (int 1) NoneShown))) 3 ∷ []) (only (put 4 (show (answer 0 NoActual) NoneShown)))) [] ≡ comes (line (codes "1")) (Stops kind.Result 3) 39
unfolding ◌>>=◌ give raise stop lost look change consult pay happen note turn take_room scope handled digits
row_no_result = refl

-- var g : int := 1
-- procedure p (var x : int)
--   post g = 1
--   x := 5
-- end p
-- p (g)
-- put g
-- The checks refuse it, since g is lent and read; the definitions still say when copies come back. It would fail if `post` were checked behind
-- the copying back.
abbrev post_first : Program
post_first = simple (0 ∷ []) (routine Nothing (by_var 0 ∷ []) [] Empty (only (set 4 (local 0) (int 5))) (only (check 3 Ensures (compare Equal (number (global 0)) (int 1)))) 5 ∷ [])
    (var_from 1 0 (Global 0 ∷ []) (from (int 1)) (Then (call 6 0 (lent (global 0) NoActual)) (only (put 7 (show (number (global 0)) NoneShown)))))

-- Line 1: 3. Line 6: 2 nodes, a turn, a formal, the assignment 3, `post` 4. Line 7: 36.
row_post_first : within 9 post_first [] ≡ comes (line (codes "5")) Ends 50
unfolding ◌>>=◌ give raise stop lost look change consult pay happen note turn take_room scope handled digits
row_post_first = refl

-- module M
--   export (p)
--   var n : int := 0
--   invariant n <= 1
--   procedure p
--     n := n + 1
--   end p
-- end M
-- M.p
-- M.p
abbrev kept : Routine
kept = record (procedure [] [] (only (check 4 Keeps (compare LessOrEqual (number (global 0)) (int 1)))) 4) { is_invariant = true }

abbrev keeping : Program
keeping = simple (0 ∷ []) (kept ∷ (procedure [] [] (only (set 6 (global 0) (plus (number (global 0)) (int 1)))) 7 ∷ []))
    (Then (Module (on 1) [] [] (Some 0) 4 (var_from 3 0 (Global 0 ∷ []) (from (int 0)) Empty))
    (Then (Simply (on 9) (Do (Calls (on 9) 1 (Some 0) NoActual)))
    (only (Simply (on 10) (Do (Calls (on 10) 1 (Some 0) NoActual))))))

-- an invariant has the room 64 + 1 + 12 * 4
room_kept : room_of (int_shape ∷ []) words_of_int (kept ∷ []) kept ≡ 113
room_kept = refl

-- The declaration 3. Each call of the invariant costs a turn and 4 nodes; each call of p the statement, a turn, and 5. The invariant is called as
-- the body of the module ends, before and behind the first call, and before and behind the second one, where it is false.
row_keeping : within 9 keeping [] ≡ comes [] (Stops kind.Invariant 4) 42
unfolding ◌>>=◌ give raise stop lost look change consult pay happen note turn take_room scope handled digits
row_keeping = refl
