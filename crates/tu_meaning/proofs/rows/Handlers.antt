-- Worked rows on handlers and `quit`. The units beside a row are counted from the table of units: the clause of a handler and its name are a node
-- each as the body begins, and the taking of an exception costs one.
use Rattle.std.proofs.Common.{pos, map, ◌≡◌, ℕ, [], ◌∷◌, ◌++◌, codes, refl}
use Rattle.std.specs.Fmt.{digits}
use Rattle.tu_base.specs.declared.kind.Kind.TheVariants as kind
use Rattle.tu_base.specs.declared.shape.Shape.TheVariants.{Array}
use Rattle.tu_base.specs.declared.operator.Binary.TheVariants.{Divide}
use Rattle.tu_core.specs.declared.names.Variable.TheVariants.{Global, Local}
use Rattle.tu_core.specs.declared.names.LocalName.TheVariants.{Declared, Caught}
use Rattle.tu_core.specs.declared.claim.Claim.TheVariants.{Asserts}
use Rattle.tu_core.specs.Core.{Absent, Present, NoActual, NoneShown, Statement, Simply, Quit, Block, Empty, Then, Handles, Routine, Program}
use Rattle.tu_meaning.specs.Steps.{Note, Began, LimitPassed, ◌>>=◌, give, raise, stop, lost, look, change, consult, pay, happen, note, turn, take_room, scope, handled}
use Rattle.tu_meaning.specs.Meaning.{Ends, Stops}
use Rattle.tu_meaning.specs.Programs.{meaning}
use Rattle.tu_meaning.proofs.rows.Making.{within, comes, line, no_files, on, span, int_shape, int, number, plus, calculated, global, local, show, text, show_text, put, set, call, gives, check, given, lent, answer, var, var_from, from, procedure, function, by_value, by_var, program, simple, only}
use Rattle.tu_meaning.specs.Words.{numbered}

abbrev handles : (line name : ℕ) → Block → Routine → Routine
handles n name block r = record r { handler = Handles (on n) name block }

abbrev quit : (line : ℕ) → Statement
quit n = Simply (on n) (Quit Absent)

-- var g : int := 0
-- procedure q (var x : int)
--   x := 5
--   assert false
-- end q
abbrev fails : Routine
fails = procedure (by_var 0 ∷ []) [] (Then (set 3 (local 0) (int 5)) (only (check 4 Asserts (int 0)))) 5

-- procedure p (var y : int)
--   handler (k)
--     put "caught ", k, " ", y
--     LAST
--   end handler
--   q (y)
--   put "not here"
-- end p
abbrev catches : Statement → Routine
catches last = handles 7 1 (Then (put 8 (show_text (text (codes "caught ")) (show (number (local 1)) (show_text (text (codes " ")) (show (number (local 0)) NoneShown))))) (only last))
    (procedure (by_var 0 ∷ []) (Caught ∷ []) (Then (call 11 0 (lent (local 0) NoActual)) (only (put 12 (show_text (text (codes "not here")) NoneShown)))) 13)

-- p (g)
-- put g
abbrev caught : Statement → Program
caught last = simple (0 ∷ []) (fails ∷ (catches last ∷ [])) (var_from 1 0 (Global 0 ∷ []) (from (int 0)) (Then (call 14 1 (lent (global 0) NoActual)) (only (put 15 (show (number (global 0)) NoneShown)))))

-- with y := y + 1 as the last line of the handler
-- It would fail if nothing were copied back where an exception leaves a call. Line 1: 3. Line 14: 2 nodes, a turn, a formal, the handler 2. Line
-- 11: 2 nodes, a turn, a formal, the assignment 3, the assertion 2. The taking 1. Line 8: the statement, 15, 35, 3, 34 and the line end. Line 9: 5.
-- Line 15: 36.
row_caught : within 9 (caught (set 9 (local 0) (plus (number (local 0)) (int 1)))) [] ≡ comes (line (codes "caught 12 5") ++ line (codes "6")) Ends 149
unfolding ◌>>=◌ give raise stop lost look change consult pay happen note turn take_room scope handled digits
row_caught = refl

-- With `quit` as its last line the exception goes on, with its own line. Up to line 8 there are 108 units, and `quit` is one.
row_raised_again : within 9 (caught (quit 9)) [] ≡ comes (line (codes "caught 12 5")) (Stops kind.Assert 4) 109
unfolding ◌>>=◌ give raise stop lost look change consult pay happen note turn take_room scope handled digits
row_raised_again = refl

-- quit : 2
row_quit : within 9 (simple [] [] (only (Simply (on 1) (Quit (Present (int 2)))))) [] ≡ comes [] (Stops kind.Divide 1) 2
unfolding ◌>>=◌ give raise stop lost look change consult pay happen note turn take_room scope handled digits
row_quit = refl

-- quit : 22
row_quit_outside : within 9 (simple [] [] (only (Simply (on 1) (Quit (Present (int 22)))))) [] ≡ comes [] (Stops kind.Range 1) 2
unfolding ◌>>=◌ give raise stop lost look change consult pay happen note turn take_room scope handled digits
row_quit_outside = refl

-- quit : 0
row_quit_nothing : within 9 (simple [] [] (only (Simply (on 1) (Quit (Present (int 0)))))) [] ≡ comes [] (Stops kind.Range 1) 2
unfolding ◌>>=◌ give raise stop lost look change consult pay happen note turn take_room scope handled digits
row_quit_nothing = refl

-- procedure deep (d : int)
--   var a : array 1 .. 4000000 of int
--   deep (d + 1)
-- end deep
-- procedure safe
--   handler (k)
--     put k
--   end handler
--   deep (1)
-- end safe
-- safe
-- safe
abbrev deep : Program
deep = program (int_shape ∷ (Array (span 1 4000000 ∷ []) 0 ∷ [])) []
    (procedure (by_value ∷ []) (Declared 1 ∷ []) (var 2 1 (Local 1 ∷ []) (only (call 3 0 (given (plus (number (local 0)) (int 1)) NoActual)))) 4
    ∷ (handles 6 0 (only (put 7 (show (number (local 0)) NoneShown))) (procedure [] (Caught ∷ []) (only (call 9 0 (given (int 1) NoActual))) 10) ∷ []))
    (Then (call 11 1 NoActual) (only (call 12 1 NoActual)))

-- The rooms of the two calls of `deep` that fit are given back, so the second `safe` comes as far as the first. Each: the statement, a turn, the
-- handler 2, 2 nodes; twice a turn, a formal, the name and its words 4000001, and 4 nodes; the turn of the third call; the taking 1; line 7 with
-- 2 nodes, 32, two bytes and the line end.
row_deep : within 20 deep [] ≡ comes (line (codes "21") ++ line (codes "21")) Ends 16000118
unfolding ◌>>=◌ give raise stop lost look change consult pay happen note turn take_room scope handled digits
row_deep = refl

abbrev began : Note
began = Began 0

-- The log tells each statement that began, and each Storage that the limit raised: `safe`, three calls of `deep`, the limit, `put`.
log_deep : (meaning deep [] no_files 20).log ≡ began ∷ (began ∷ (began ∷ (began ∷ (LimitPassed ∷ (began ∷ (began ∷ (began ∷ (began ∷ (began ∷ (LimitPassed ∷ (began ∷ [])))))))))))
unfolding ◌>>=◌ give raise stop lost look change consult pay happen note turn take_room scope handled digits
log_deep = refl

-- quit : 21
-- a Storage that `quit` raises passed no limit
log_quit : (meaning (simple [] [] (only (Simply (on 1) (Quit (Present (int 21)))))) [] no_files 9).log ≡ began ∷ []
unfolding ◌>>=◌ give raise stop lost look change consult pay happen note turn take_room scope handled digits
log_quit = refl

-- function f : int
--   handler (k)
--   end handler
--   assert false
-- end f
-- put f
-- A function's handler goes on by `result`, and raises Result at the function's end where it does not. The statement and the call 2, a turn, the
-- handler 2, the assertion 2, the taking 1.
row_no_result : within 9 (simple [] (handles 2 0 Empty (function [] (Caught ∷ []) (only (check 4 Asserts (int 0))) 5) ∷ []) (only (put 6 (show (answer 0 NoActual) NoneShown)))) [] ≡ comes [] (Stops kind.Result 5) 8
unfolding ◌>>=◌ give raise stop lost look change consult pay happen note turn take_room scope handled digits
row_no_result = refl

-- function f : int
--   handler (k)
--     result k
--   end handler
-- end f
-- put f
-- Result at the end of the body is taken by the function's own handler, which gives its number 16. The statement and the call 2, a turn, the handler
-- 2, the taking 1, `result` and its value 2, 32, three bytes.
row_own_result : within 9 (simple [] (handles 2 0 (only (gives 3 (number (local 0)))) (function [] (Caught ∷ []) Empty 5) ∷ []) (only (put 6 (show (answer 0 NoActual) NoneShown)))) [] ≡ comes (line (codes "16")) Ends 43
unfolding ◌>>=◌ give raise stop lost look change consult pay happen note turn take_room scope handled digits
row_own_result = refl

-- var g : int := 1
-- procedure p
--   handler (k)
--   end handler
--   g := 7 div 0
-- end p
-- p
-- put g
-- A target that was not stored keeps its value. Line 1: 3. Line 7: the statement, a turn, the handler 2, the assignment 5, the taking 1. Line 8: 36.
row_kept_value : within 9 (simple (0 ∷ []) (handles 3 0 Empty (procedure [] (Caught ∷ []) (only (set 5 (global 0) (calculated Divide (int 7) (int 0)))) 6) ∷ [])
    (var_from 1 0 (Global 0 ∷ []) (from (int 1)) (Then (call 7 0 NoActual) (only (put 8 (show (number (global 0)) NoneShown)))))) [] ≡ comes (line (codes "1")) Ends 49
unfolding ◌>>=◌ give raise stop lost look change consult pay happen note turn take_room scope handled digits
row_kept_value = refl

-- the exceptions by the numbers of 1 to 21, in the order of the table
row_numbered : map (λ n. numbered (pos n)) (1 ∷ (2 ∷ (3 ∷ (4 ∷ (5 ∷ (6 ∷ (7 ∷ (8 ∷ (9 ∷ (10 ∷ (11 ∷ (12 ∷ (13 ∷ (14 ∷ (15 ∷ (16 ∷ (17 ∷ (18 ∷ (19 ∷ (20 ∷ (21 ∷ [])))))))))))))))))))))
    ≡ kind.Overflow ∷ (kind.Divide ∷ (kind.Subscript ∷ (kind.Range ∷ (kind.Unset ∷ (kind.Tag ∷ (kind.Pointer ∷ (kind.Overlap ∷ (kind.StringSize ∷ (kind.StringPlace ∷ (kind.Case ∷ (kind.Assert ∷ (kind.Pre ∷ (kind.Post ∷ (kind.Invariant ∷ (kind.Result ∷ (kind.Input ∷ (kind.EndOfInput ∷ (kind.Stream ∷ (kind.Bounds ∷ (kind.Storage ∷ []))))))))))))))))))))
row_numbered = refl
