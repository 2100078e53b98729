-- Worked rows of the meaning, from texts to traces. The units of each are counted beside it.
use Rattle.std.proofs.Common.{◌≡◌, ℕ, List, [], ◌∷◌, ◌++◌, map, None, codes, refl}
use Rattle.std.specs.Fmt.{digits}
use Rattle.tu_base.specs.Trace.{Trace, Put}
use Rattle.tu_base.specs.declared.kind.Kind.TheVariants.{Overflow, Range, Unset, Case}
use Rattle.tu_base.specs.declared.event.Verdict.{Verdict}
use Rattle.tu_base.specs.declared.event.Verdict.TheVariants.{Ended, Stopped, Going}
use Rattle.tu_token.specs.Words.{words}
use Rattle.tu_tree_meaning.specs.Rooms.{nodes, all_joins, room_of}
use Rattle.tu_tree_meaning.specs.Steps.{give, raise, stop, look, change, pay, happen, turn, ◌>>=◌}
use Rattle.tu_tree_meaning.specs.Interpreter.{execute_program}
use Rattle.tu_tree_meaning.specs.Meaning.{meant}
use Rattle.tu_tree_meaning.specs.Programs.{start, meaning}
use Rattle.tu_tree_meaning.specs.Store.{Store, by_copying}
use Rattle.tu_tree_meaning.proofs.Sources.{program}

-- what a text means within some turns
abbrev is_meant : (source : List ℕ) → (turns : ℕ) → Trace → Verdict → (units : ℕ) → Type 0
is_meant source turns trace verdict units = meaning (program source) [] None turns ≡ record { trace = trace; verdict = verdict; units = units }

-- bytes that are put, and a line of them
abbrev bytes : List ℕ → Trace
bytes text = map Put text

abbrev line : List ℕ → Trace
line text = bytes (text ++ 10 ∷ [])

empty : is_meant (codes "\n") 0 [] Ended 0
unfolding ◌>>=◌ give raise stop look change pay happen turn digits words program
empty = refl

-- statement 1, numbers and operators 5, text 32, bytes 2
precedence : is_meant (codes "put 1 + 2 * 3") 0 (line (codes "7")) Ended 40
unfolding ◌>>=◌ give raise stop look change pay happen turn digits words program
precedence = refl

brackets : is_meant (codes "put 2 - 3 * ( 4 - 5 )") 0 (line (codes "5")) Ended 42
unfolding ◌>>=◌ give raise stop look change pay happen turn digits words program
brackets = refl

abbrev summing : List ℕ
summing = codes "var i := 1\nvar s := 0\nloop\nexit when i > 10\ns := s + i\ni := i + 1\nend loop\nput s\n"

-- Two declarations with name, number and word, 6. The loop, 1. Ten rounds with a turn 1, `exit when` 4 and two assignments 10, and a last one
-- with 5, 155. `put` 2, text 32 and bytes 3, 37.
sum : is_meant summing 11 (line (codes "55")) Ended 199
unfolding ◌>>=◌ give raise stop look change pay happen turn digits words program
sum = refl

-- the eleventh round is missing
sum_goes_on : is_meant summing 10 [] Going 157
unfolding ◌>>=◌ give raise stop look change pay happen turn digits words program
sum_goes_on = refl

sum_with_more_turns : is_meant summing 1000 (line (codes "55")) Ended 199
unfolding ◌>>=◌ give raise stop look change pay happen turn digits words program
sum_with_more_turns = refl

-- Nodes: two names and two numbers; the loop; 4, 5 and 5; 2. Of three locals the loop changes two.
sum_room : (nodes (program summing) ≡ 21) × (room_of [] (program summing) ≡ 316) × (room_of (codes "i" ∷ codes "k" ∷ codes "s" ∷ []) (program summing) ≡ 343)
unfolding words program
sum_room = (refl, refl, refl)

-- as the text of a subprogram with these locals: 2 more for the loop, and for each of eleven rounds
sum_joins : (meant (execute_program Store by_copying 11 11 (codes "i" ∷ codes "s" ∷ []) (program summing) (start (program summing) [] None))).units ≡ 223
unfolding ◌>>=◌ give raise stop look change pay happen turn digits words program
sum_joins = refl

-- no turn is left before the first round, and then before each further one
endless : (is_meant (codes "loop end loop") 0 [] Going 1) × (is_meant (codes "loop end loop") 1 [] Going 2) × (is_meant (codes "loop end loop") 50 [] Going 51)
unfolding ◌>>=◌ give raise stop look change pay happen turn digits words program
endless = (refl, refl, refl)

-- what was put before the turns ran out stays
endless_output : is_meant (codes "loop\nput 7 ..\nend loop") 3 (bytes (codes "777")) Going 109
unfolding ◌>>=◌ give raise stop look change pay happen turn digits words program
endless_output = refl

-- the loop 1, one turn 1, `exit when` 4, `put` 36
first_round : is_meant (codes "loop\nexit when 1 = 1\nput 1\nend loop\nput 2") 1 (line (codes "2")) Ended 42
unfolding ◌>>=◌ give raise stop look change pay happen turn digits words program
first_round = refl

-- The inner loop is left, and not the outer one: 3 and 1, two rounds of turn 1, inner loop 1, its turn and `exit` 2, assignment 5 and `exit when` 4,
-- and `put` 36.
inner_exit : is_meant (codes "var n := 0\nloop\nloop\nexit\nend loop\nn := n + 1\nexit when n >= 2\nend loop\nput n") 4 (line (codes "2")) Ended 66
unfolding ◌>>=◌ give raise stop look change pay happen turn digits words program
inner_exit = refl

abbrev chosen : List ℕ → List ℕ
chosen number = codes "var x := " ++ (number ++ codes "\nif x < 0 then put 1\nelsif x = 0 then put 2\nelsif x not= 1 then put 3\nelse put 4\nend if")

-- 3 for the declaration, 4 for the first condition, 4 for each arm that is tried, 36 for the `put`
arms : (is_meant (chosen (codes "0 - 1")) 0 (line (codes "1")) Ended 45) × (is_meant (chosen (codes "0")) 0 (line (codes "2")) Ended 47) × (is_meant (chosen (codes "5")) 0 (line (codes "3")) Ended 51) × (is_meant (chosen (codes "1")) 0 (line (codes "4")) Ended 51)
unfolding ◌>>=◌ give raise stop look change pay happen turn digits words program
arms = (refl, refl, refl, refl)

-- 2 for the declaration, 4 for the first condition and for each arm, 2 for each `put`; no local is changed
arms_room : (nodes (program (chosen (codes "0"))) ≡ 22) × (all_joins (codes "x" ∷ []) (program (chosen (codes "0"))) ≡ 0)
unfolding words program
arms_room = (refl, refl)

-- the line is that of the arm, and behind it those of a block's statement and of the statement around it
lines : (is_meant (codes "if 1 > 2 then\nput 1\nelsif\n2147483647 + 1 > 0 then\nput 2\nend if") 0 [] (Stopped Overflow 3) 8) × (is_meant (codes "\nif 1 < 2 then\n\nput 2147483647 * 2\nend if") 0 [] (Stopped Overflow 4) 8) × (is_meant (codes "\n\nif\n2147483647 + 1 = 0 then\nend if") 0 [] (Stopped Overflow 3) 4)
unfolding ◌>>=◌ give raise stop look change pay happen turn digits words program
lines = (refl, refl, refl)

-- from -2147483647 on
least : is_meant (codes "put 0 - 2147483647 - 1") 0 [] (Stopped Overflow 1) 6
unfolding ◌>>=◌ give raise stop look change pay happen turn digits words program
least = refl

unset : is_meant (codes "var x : int\nput x") 0 [] (Stopped Unset 2) 4
unfolding ◌>>=◌ give raise stop look change pay happen turn digits words program
unset = refl

-- A start is evaluated once for all its names: 4 for these, 1 for it, 5 for the assignment, and for `put` 1, three times 34, and 1 for the line end.
names : is_meant (codes "var x , y : int := 3 ; y := y + x\nput x , 0 , y") 0 (line (codes "306")) Ended 114
unfolding ◌>>=◌ give raise stop look change pay happen turn digits words program
names = refl

-- a part is put before the next one is evaluated
parts : is_meant (codes "put 7 , 2147483647 + 1") 0 (bytes (codes "7")) (Stopped Overflow 1) 38
unfolding ◌>>=◌ give raise stop look change pay happen turn digits words program
parts = refl

widths : (is_meant (codes "put 12 : 4 , 3 : 1 ..") 0 (bytes (codes "  123")) Ended 74) × (is_meant (codes "put 1 : 256") 0 [] (Stopped Range 1) 3) × (is_meant (codes "put 1 : 0 - 1") 0 [] (Stopped Range 1) 5)
unfolding ◌>>=◌ give raise stop look change pay happen turn digits words program
widths = (refl, refl, refl)

-- what has no meaning yet shows as an exception at line 0
stuck : (is_meant (codes "put true") 0 [] (Stopped Case 0) 1) × (is_meant (codes "if 1 then end if") 0 [] (Stopped Case 0) 2) × (is_meant (codes "exit") 0 [] (Stopped Case 0) 1)
unfolding ◌>>=◌ give raise stop look change pay happen turn digits words program
stuck = (refl, refl, refl)
