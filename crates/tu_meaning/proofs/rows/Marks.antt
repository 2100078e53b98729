-- A larger program: the marks of a class are read, added by a module with an invariant, and reported in a file.
use Rattle.std.proofs.Common.{map, ◌≡◌, ℕ, true, List, [], ◌∷◌, ◌++◌, Some, None, codes, refl}
use Rattle.std.specs.Prelude.{pos}
use Rattle.std.specs.Fmt.{digits}
use Rattle.tu_base.specs.Trace.{AtEnd as at_end, Keep}
use Rattle.tu_base.specs.declared.shape.Shape.{Shape}
use Rattle.tu_base.specs.declared.shape.Shape.TheVariants.{Text as text_shape, Array, Record}
use Rattle.tu_base.specs.declared.operator.Relation.TheVariants.{Greater, GreaterOrEqual, LessOrEqual}
use Rattle.tu_base.specs.declared.operator.Binary.TheVariants.{Divide}
use Rattle.tu_base.specs.declared.operator.Junction.TheVariants.{And}
use Rattle.tu_core.specs.Targets.{ints}
use Rattle.tu_core.specs.declared.names.Variable.TheVariants.{Global}
use Rattle.tu_core.specs.declared.names.Formal.TheVariants.{ByValue}
use Rattle.tu_core.specs.declared.names.CallResult.TheVariants.{OneValue}
use Rattle.tu_core.specs.declared.targets.Size.TheVariants.{Most}
use Rattle.tu_core.specs.declared.targets.Target.{Target}
use Rattle.tu_core.specs.declared.targets.Target.TheVariants.{TakesScalar, TakesText}
use Rattle.tu_core.specs.declared.claim.Claim.TheVariants.{Requires, Keeps}
use Rattle.tu_core.specs.Core.{Call, Scalar, Optional, Path, Chain, NoLink, Decide, AtEnd, CallScalar, Text, UseText, Calls, Actuals, NoActual, Given, AText, AScalar, Absent, Present, End, Field, NoneShown, ShowInt, ShowText, NoneTaken, TakeInt, TakeToken, Statement, Simply, Exit, Give, Do, Get, Put, Assign, OpenStream, Close, If, Loop, Case, Module, Block, Empty, Then, Else, Elsif, Default, Labelled, Routine, Program}
use Rattle.tu_meaning.specs.Steps.{◌>>=◌, give, raise, stop, lost, look, change, consult, pay, happen, note, turn, take_room, scope, handled}
use Rattle.tu_meaning.specs.Meaning.{Ends}
use Rattle.tu_meaning.proofs.rows.Making.{within, comes, line, taken, on, span, int_shape, int, minus, number, plus, calculated, compare, global, local, global_at, item_at, show, text, show_text, put, set, if_then, check, gives, var, var_from, from, routine, procedure, function, by_value, program, only}
use Rattle.tu_core.specs.Rooms.{room_of}
use Rattle.tu_base.specs.Shapes.{all_words}

-- % marks of a class
-- type Grade : enum (fail, pass, high)
-- module Marks
--   import (Grade)
--   export (add, count, total, grade)
--   var n, sum : int := 0
--   var names : array 1 .. 10 of string (20)
--   invariant n >= 0 and n <= 10
-- n, sum and names are the globals 0, 1 and 2; name, mark, out and best the globals 3 to 6.
abbrev shapes : List Shape
shapes = int_shape ∷ (text_shape 20 ∷ (Array (span 1 10 ∷ []) 1 ∷ (text_shape 255 ∷ (Record (1 ∷ (0 ∷ [])) ∷ []))))

abbrev is_at_least : Scalar → ℕ → Scalar
is_at_least e n = compare GreaterOrEqual e (int n)

abbrev between : Scalar → (low high : ℕ) → Scalar
between e low high = Chain 0 (is_at_least e low) (Decide And (compare LessOrEqual e (int high)) NoLink)

abbrev keeps : Routine
keeps = record (procedure [] [] (only (check 8 Keeps (between (number (global 0)) 0 10))) 8) { is_invariant = true }

--   procedure add (name : string, mark : int)
--     pre mark >= 0 and mark <= 100
--     n := n + 1
--     names (n) := name
--     sum := sum + mark
--   end add
abbrev set_text : (line most : ℕ) → Path → Text → Statement
set_text n most p e = Simply (on n) (Assign (TakesText (Most most)) p (AText e))

abbrev add : Routine
add = record (procedure (ByValue (TakesText (Most 255)) ∷ (by_value ∷ [])) []
    (Then (set 11 (global 0) (plus (number (global 0)) (int 1)))
    (Then (set_text 12 20 (global_at 2 (item_at 2 (number (global 0)))) (UseText 0 (local 0)))
    (only (set 13 (global 1) (plus (number (global 1)) (number (local 1))))))) 14) { before = only (check 10 Requires (between (number (local 1)) 0 100)) }

--   function count : int
--     result n
--   end count
--   function total : int
--     result sum
--   end total
--   function grade (mark : int) : Grade
--     if mark >= 80 then
--       result Grade.high
--     elsif mark >= 50 then
--       result Grade.pass
--     end if
--     result Grade.fail
--   end grade
-- end Marks
abbrev a_grade : Target
a_grade = TakesScalar (span 0 2)

abbrev gives_grade : (line place : ℕ) → Statement
gives_grade n k = Simply (on n) (Give a_grade (AScalar (int k)))

abbrev grade : Routine
grade = routine (OneValue a_grade) (by_value ∷ []) [] Empty
    (Then (If (on 22) (is_at_least (number (local 0)) 80) (only (gives_grade 23 2)) (Elsif (on 24) (is_at_least (number (local 0)) 50) (only (gives_grade 25 1)) (Else Empty)))
    (only (gives_grade 27 0))) Empty 28

abbrev routines : List Routine
routines = keeps ∷ (add ∷ (function [] [] (only (gives 16 (number (global 0)))) 17 ∷ (function [] [] (only (gives 19 (number (global 1)))) 20 ∷ (grade ∷ []))))

-- The invariant has 64, a word, and 12 * 8; `add` 64, the words of a text and of an int, and 12 * 23; `count` and `total` 64, a result, and 12 * 2;
-- `grade` 64, a formal, a result, and 12 * 14.
rooms_marks : map (room_of shapes (all_words shapes) routines) routines ≡ 161 ∷ (406 ∷ (89 ∷ (89 ∷ (234 ∷ []))))
rooms_marks = refl

-- Marks.p
abbrev of_marks : (line callee : ℕ) → Actuals → Call
of_marks n callee actuals = Calls (on n) callee (Some 0) actuals

abbrev answer_of_marks : (line callee : ℕ) → Actuals → Scalar
answer_of_marks n callee actuals = CallScalar 0 (of_marks n callee actuals)

abbrev mark : Scalar
mark = number (global 4)

abbrev name : Text
name = UseText 0 (global 3)

abbrev best_name : Path
best_name = global_at 6 (Field 4 0 End)

abbrev best_mark : Path
best_mark = global_at 6 (Field 4 1 End)

abbrev out : Optional
out = Present (number (global 5))

-- put : out, name : 8, mark : 4, LAST
abbrev reports : (line : ℕ) → (last : List ℕ) → Block
reports n last = only (Simply (on n) (Put out (ShowText name (Present (int 8)) (ShowInt mark (Present (int 4)) (show_text (text last) NoneShown))) true))

-- loop
--   exit when eof
--   get name, mark
--   Marks.add (name, mark)
--   if mark > best.mark then
--     best.name := name
--     best.mark := mark
--   end if
--   case Marks.grade (mark) of
--     label Grade.high : put : out, name : 8, mark : 4, " high"
--     label Grade.pass : put : out, name : 8, mark : 4, " pass"
--     label : put : out, name : 8, mark : 4, " fail"
--   end case
-- end loop
abbrev round : Block
round =
    Then (Simply (on 39) (Exit (Present (AtEnd 0 (on 39) Absent))))
    (Then (Simply (on 40) (Get Absent (TakeToken (Most 255) (global 3) (TakeInt ints (global 4) NoneTaken))))
    (Then (Simply (on 41) (Do (of_marks 41 1 (Given (on 41) None (AText name) (Given (on 41) None (AScalar mark) NoActual)))))
    (Then (if_then 42 (compare Greater mark (number best_mark)) (Then (set_text 43 20 best_name name) (only (set 44 best_mark mark))))
    (only (Case (on 46) (answer_of_marks 46 4 (Given (on 46) None (AScalar mark) NoActual))
    (Labelled (pos 2 ∷ []) (reports 47 (codes " high")) (Labelled (pos 1 ∷ []) (reports 48 (codes " pass")) (Default (reports 49 (codes " fail"))))))))))

-- var name : string
-- var mark, out : int
-- var best : record
--   name : string (20)
--   mark : int
-- end record
-- best.mark := -1
-- open : out, "report.txt", put
-- (the loop)
-- close : out
-- put "best ", best.name
-- put "average ", Marks.total div Marks.count
abbrev marks : Program
marks = program shapes (0 ∷ (0 ∷ (2 ∷ (3 ∷ (0 ∷ (0 ∷ (4 ∷ []))))))) routines
    (Then (Module (on 3) [] [] (Some 0) 8 (var_from 6 0 (Global 0 ∷ (Global 1 ∷ [])) (from (int 0)) (var 7 2 (Global 2 ∷ []) Empty)))
    (var 30 3 (Global 3 ∷ []) (var 31 0 (Global 4 ∷ (Global 5 ∷ [])) (var 32 4 (Global 6 ∷ [])
    (Then (set 36 best_mark (minus (int 1)))
    (Then (Simply (on 37) (OpenStream ints (global 5) (text (codes "report.txt")) true))
    (Then (Loop (on 38) None round)
    (Then (Simply (on 52) (Close (number (global 5))))
    (Then (put 53 (show_text (text (codes "best ")) (show_text (UseText 0 best_name) NoneShown)))
    (only (put 54 (show_text (text (codes "average ")) (show (calculated Divide (answer_of_marks 54 3 NoActual) (answer_of_marks 54 2 NoActual)) NoneShown)))))))))))))

abbrev ended : List ℕ → List ℕ
ended text = text ++ 10 ∷ []

abbrev input : List ℕ
input = ended (codes "Ann 82") ++ ended (codes "Bob 47") ++ ended (codes "Cyd 66")

abbrev report : List ℕ
report = ended (codes "Ann       82 high") ++ ended (codes "Bob       47 fail") ++ ended (codes "Cyd       66 pass")

-- The module: n and sum and their start 5, names and its words 61, and a call of the invariant 9 (a turn, the clause and 7 nodes). Lines 30 to 35:
-- 66, 4 and 8. Line 36: 5. Line 37: 3 nodes and 64. The loop 1. So far 226.
-- A round: a turn, `exit` and `eof` 2; `get` 3 nodes, four bytes taken, three read, three taken, 32; `Marks.add` with the statement, the invariant 9,
-- two actuals, a turn, two formals and the 65 words of the first, `pre` 8, 5, 5 and six words and the path, 5, and the invariant 9: 118; `if` 5;
-- `case` with its call 23, the label and the arm; and the line of the report 65. Ann has 14 more for the best, one label, and 6 in `grade`: 281. Bob
-- and Cyd have two labels and 10 in `grade`: 272 each. The last round 3.
-- Line 52: 66. Line 53: 21. Line 54: the statement, 17, `div`, two calls of 22, 32, two bytes and the line end: 98.
row_marks : within 40 marks input ≡ comes (taken input ++ at_end ∷ Keep (codes "report.txt") report ∷ line (codes "best Ann") ++ line (codes "average 65")) Ends 1239
unfolding ◌>>=◌ give raise stop lost look change consult pay happen note turn take_room scope handled digits
row_marks = refl
