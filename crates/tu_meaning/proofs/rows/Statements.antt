-- Worked rows on statements, clauses and the ways out of blocks. The units beside a row are counted from the table of units.
use Rattle.std.proofs.Common.{◌≡◌, true, [], ◌∷◌, ◌++◌, Some, None, codes, refl}
use Rattle.std.specs.Prelude.{pos}
use Rattle.std.specs.Fmt.{digits}
use Rattle.tu_base.specs.Shapes.{all_words}
use Rattle.tu_base.specs.declared.kind.Kind.TheVariants as kind
use Rattle.tu_base.specs.declared.operator.Relation.TheVariants.{Equal, Less, Greater}
use Rattle.tu_base.specs.declared.operator.Unary.TheVariants.{Plus}
use Rattle.tu_base.specs.declared.operator.Binary.TheVariants.{Divide}
use Rattle.tu_core.specs.declared.names.Variable.TheVariants.{Global, Local}
use Rattle.tu_core.specs.declared.names.LocalName.TheVariants.{Declared, Counter, Caught, ResultName}
use Rattle.tu_core.specs.declared.claim.Claim.TheVariants.{Asserts, Requires, Ensures, Keeps}
use Rattle.tu_core.specs.Core.{Scalar, Prefixed, Absent, Present, Through, NoActual, NoneShown, Exit, Return, Simply, Loop, For, Case, Declare, InitClause, Empty, Then, Labelled, NoArm, Handles, Routine, Program}
use Rattle.tu_core.specs.Rooms.{room_of}
use Rattle.tu_meaning.specs.Steps.{◌>>=◌, give, raise, stop, lost, look, change, consult, pay, happen, note, turn, take_room, scope, handled}
use Rattle.tu_meaning.specs.Meaning.{Ends, Stops}
use Rattle.tu_meaning.proofs.rows.Making.{within, comes, bytes, line, on, span, int_shape, int, number, plus, calculated, compare, global, local, show, put, put_on, set, call, gives, check, given, answer, var_from, from, procedure, function, by_value, simple, only}

-- case 3 of
--   label 1, 2 : put 1
-- end case
-- `case`, its value, and two labels
row_no_arm : within 9 (simple [] [] (only (Case (on 1) (int 3) (Labelled (pos 1 ∷ (pos 2 ∷ [])) (only (put 2 (show (int 1) NoneShown))) NoArm)))) [] ≡ comes [] (Stops kind.Case 1) 4
unfolding ◌>>=◌ give raise stop lost look change consult pay happen note turn take_room scope handled digits
row_no_arm = refl

-- var i : int := 0
-- loop
--   invariant i < 2
--   i := i + 1
-- end loop
-- The clause is tested as each turn begins, and has a line of its own. Line 1: 3. The loop 1. Two rounds of a turn, the clause and its 3 nodes, and 5; of
-- the third one the turn and 4.
row_loop_invariant : within 9 (simple (0 ∷ []) [] (var_from 1 0 (Global 0 ∷ []) (from (int 0))
    (only (Loop (on 2) (Some (record { at = on 3; claim = Keeps; condition = compare Less (number (global 0)) (int 2) })) (only (set 4 (global 0) (plus (number (global 0)) (int 1)))))))) [] ≡ comes [] (Stops kind.Invariant 3) 29
unfolding ◌>>=◌ give raise stop lost look change consult pay happen note turn take_room scope handled digits
row_loop_invariant = refl

-- procedure p (x : int)
--   pre x > 0
--   init y := x, z := LAST
--   post y = x
--   put z
-- end p
-- p (4)
abbrev with_init : Scalar → Program
with_init last = simple [] (record (procedure (by_value ∷ []) (Declared 0 ∷ (Declared 0 ∷ [])) (only (put 5 (show (number (local 2)) NoneShown))) 6) {
  before = Then (check 2 Requires (compare Greater (number (local 0)) (int 0))) (Declare (on 3) (InitClause (record { name = Local 1; start = from (number (local 0)) } ∷ (record { name = Local 2; start = from last } ∷ []))) Empty);
  after = only (check 4 Ensures (compare Equal (number (local 1)) (number (local 0))));
} ∷ [])
    (only (call 7 0 (given (int 4) NoActual)))

-- with y + 1
-- Line 7: 2 nodes, a turn, a formal. `pre`: 4. `init`: the clause, two names, x, and 3. Line 5: 36. `post`: 4.
row_init : within 9 (with_init (plus (number (local 1)) (int 1))) [] ≡ comes (line (codes "5")) Ends 55
unfolding ◌>>=◌ give raise stop lost look change consult pay happen note turn take_room scope handled digits
row_init = refl

-- With 7 div 0 the exception has the line of the clause: 4, 4, and the clause, two names, x, and 3.
row_init_raises : within 9 (with_init (calculated Divide (int 7) (int 0))) [] ≡ comes [] (Stops kind.Divide 3) 15
unfolding ◌>>=◌ give raise stop lost look change consult pay happen note turn take_room scope handled digits
row_init_raises = refl

-- function f (n : int) r : int
--   post r > n
--   result LAST
-- end f
abbrev above : Scalar → Routine
above last = record (function (by_value ∷ []) (ResultName ∷ []) (only (gives 3 last)) 4) { result = Some 1; after = only (check 2 Ensures (compare Greater (number (local 1)) (number (local 0)))) }

-- put f (3)
abbrev puts_above : Scalar → Program
puts_above last = simple [] (above last ∷ []) (only (put 5 (show (answer 0 (given (int 3) NoActual)) NoneShown)))

-- with n + 1
-- Line 5: 3 nodes, a turn, a formal; `result` and its value 4; `post` 4; 32 and two bytes.
row_post : within 9 (puts_above (plus (number (local 0)) (int 1))) [] ≡ comes (line (codes "4")) Ends 47
unfolding ◌>>=◌ give raise stop lost look change consult pay happen note turn take_room scope handled digits
row_post = refl

-- with n: 3, 2, 2 and 4
row_post_fails : within 9 (puts_above (number (local 0))) [] ≡ comes [] (Stops kind.Post 2) 11
unfolding ◌>>=◌ give raise stop lost look change consult pay happen note turn take_room scope handled digits
row_post_fails = refl

-- the name of the result has no words beside those of the result: 64, 1, 1, and 12 for each of 8 nodes
room_above : room_of (int_shape ∷ []) (all_words (int_shape ∷ [])) [] (above (plus (number (local 0)) (int 1))) ≡ 162
room_above = refl

-- procedure p
--   loop
--     loop
--       exit
--     end loop
--     put 1
--     return
--   end loop
-- end p
-- p
-- put 2
-- Line 10: the statement and a turn. A loop and its turn, twice; `exit`; 36; `return`. Line 11: 36.
row_ways_out : within 9 (simple [] (procedure [] [] (only (Loop (on 2) None (Then (Loop (on 3) None (only (Simply (on 4) (Exit Absent)))) (Then (put 6 (show (int 1) NoneShown)) (only (Simply (on 7) Return)))))) 9 ∷ [])
    (Then (call 10 0 NoActual) (only (put 11 (show (int 2) NoneShown))))) [] ≡ comes (line (codes "1") ++ line (codes "2")) Ends 80
unfolding ◌>>=◌ give raise stop lost look change consult pay happen note turn take_room scope handled digits
row_ways_out = refl

-- procedure p
--   var t : int := 0
--   loop
--     t := t + 1
--     exit when t = 2
--   end loop
-- end p
-- p
-- The loop changes one scalar local, which costs a unit as it begins and one each round. Line 8: the statement and a turn. Line 2: 3. Line 3: 2. Two
-- rounds of a turn, the join, 5 and 4.
row_joins : within 9 (simple [] (procedure [] (Declared 0 ∷ []) (var_from 2 0 (Local 0 ∷ []) (from (int 0))
    (only (Loop (on 3) None (Then (set 4 (local 0) (plus (number (local 0)) (int 1))) (only (Simply (on 5) (Exit (Present (compare Equal (number (local 0)) (int 2)))))))))) 7 ∷ [])
    (only (call 8 0 NoActual))) [] ≡ comes [] Ends 29
unfolding ◌>>=◌ give raise stop lost look change consult pay happen note turn take_room scope handled digits
row_joins = refl

-- type D : enum (a, b, c)
-- for decreasing d : D
--   put ord (d) ..
-- end for
-- The bounds of a type are no nodes: `for` 1, three rounds of a turn, 3 nodes, 32 and a byte.
row_through : within 9 (record (simple [] [] (only (For (on 2) 0 true (Through (span 0 2)) None (only (put_on 3 (show (Prefixed 0 (Plus ∷ []) (number (local 0))) NoneShown)))))) { locals = Counter (span 0 2) ∷ [] }) [] ≡ comes (bytes (codes "210")) Ends 112
unfolding ◌>>=◌ give raise stop lost look change consult pay happen note turn take_room scope handled digits
row_through = refl

-- procedure p
--   handler (k)
--     put 7 div 0
--   end handler
--   assert false
-- end p
-- p
-- An exception in a handler leaves the call. The statement, a turn, the handler 2, the assertion 2, the taking 1, 4 nodes.
row_in_handler : within 9 (simple [] (record (procedure [] (Caught ∷ []) (only (check 5 Asserts (int 0))) 6) { handler = Handles (on 2) 0 (only (put 3 (show (calculated Divide (int 7) (int 0)) NoneShown))) } ∷ []) (only (call 7 0 NoActual))) [] ≡ comes [] (Stops kind.Divide 3) 11
unfolding ◌>>=◌ give raise stop lost look change consult pay happen note turn take_room scope handled digits
row_in_handler = refl
