-- Worked rows on both meanings: refused programs that tell a copy from a location, and accepted ones that do not.
use Rattle.std.proofs.Common.{◌≡◌, ℕ, true, false, List, [], ◌∷◌, codes, refl}
use Rattle.std.specs.Fmt.{digits}
use Rattle.tu_core.specs.declared.names.PlaceKind.TheVariants.{OfShape}
use Rattle.tu_core.specs.Core.{NoActual, NoneShown, WithParts, AndStart, NoStart, Begin, Block, Empty, Then, Bind, Program}
use Rattle.tu_core.specs.declared.names.Variable.TheVariants.{Global, Local}
use Rattle.tu_core.specs.declared.names.LocalName.TheVariants.{Declared, BoundName}
use Rattle.tu_core.specs.declared.names.Formal.{Formal}
use Rattle.tu_core.specs.declared.names.Formal.TheVariants.{ByCopy}
use Rattle.tu_meaning.specs.Steps.{◌>>=◌, give, raise, stop, lost, look, change, consult, pay, happen, note, turn, take_room, scope, handled}
use Rattle.tu_meaning.specs.Meaning.{Ends}
use Rattle.tu_meaning.specs.Programs.{reference_meaning}
use Rattle.tu_meaning.proofs.rows.Making.{if_formed, Seen, seen_of, no_files, within, comes, line, on, int, number, plus, global, local, global_at, local_at, item, item_at, show, put, set, call, lent, shared, var_from, from, procedure, by_var, program, simple, only}
use Rattle.tu_meaning.proofs.rows.References.{two_ints, bound, totalled}

-- what is seen of a program in the reference meaning
abbrev refers : (turns : ℕ) → Program → (input : List ℕ) → Seen
refers turns p input = if_formed p (seen_of (reference_meaning p input no_files turns))

-- var a : int := 1, and a procedure
abbrev lends : List Formal → (body main : Block) → Program
lends formals body main = simple (0 ∷ []) (procedure formals [] body 9 ∷ []) (var_from 1 0 (Global 0 ∷ []) (from (int 1)) main)

-- var a : int := 1, and a block with two names
abbrev binds : (block rest : Block) → Program
binds block rest = record (simple (0 ∷ []) [] (var_from 1 0 (Global 0 ∷ []) (from (int 1)) (Then (Begin (on 2) block) rest))) { locals = BoundName 0 ∷ (BoundName 0 ∷ []) }

abbrev put_a : Block
put_a = only (put 8 (show (number (global 0)) NoneShown))

-- A place that is lent twice: procedure p (var x, y : int), with x := 5 and put y, and p (a, a). The call costs 6 units, the assignment 3, and
-- the output 36.
abbrev lent_twice : Program
lent_twice = lends (by_var 0 ∷ (by_var 0 ∷ [])) (Then (set 2 (local 0) (int 5)) (only (put 3 (show (number (local 1)) NoneShown)))) (only (call 5 0 (lent (global 0) (lent (global 0) NoActual))))

row_lent_twice : within 9 lent_twice [] ≡ comes (line (codes "1")) Ends 48
unfolding ◌>>=◌ give raise stop lost look change consult pay happen note turn take_room scope handled digits
row_lent_twice = refl

row_lent_twice_by_reference : refers 9 lent_twice [] ≡ comes (line (codes "5")) Ends 48
unfolding ◌>>=◌ give raise stop lost look change consult pay happen note turn take_room scope handled digits
row_lent_twice_by_reference = refl

-- A `var` actual that the callee reads in another way: procedure p (var x : int), with x := 5 and put a, and p (a).
abbrev read_by_callee : Program
read_by_callee = lends (by_var 0 ∷ []) (Then (set 2 (local 0) (int 5)) put_a) (only (call 5 0 (lent (global 0) NoActual)))

row_read_by_callee : within 9 read_by_callee [] ≡ comes (line (codes "1")) Ends 46
unfolding ◌>>=◌ give raise stop lost look change consult pay happen note turn take_room scope handled digits
row_read_by_callee = refl

row_read_by_callee_by_reference : refers 9 read_by_callee [] ≡ comes (line (codes "5")) Ends 46
unfolding ◌>>=◌ give raise stop lost look change consult pay happen note turn take_room scope handled digits
row_read_by_callee_by_reference = refl

-- A structured constant actual that the callee changes: var a : array 1 .. 2 of int := init (1, 2), and procedure p (x : array 1 .. 2 of int),
-- with a (1) := 5 and put x (1), and p (a). Line 1 costs 8, the call 4, the assignment 5, and the output 38.
abbrev changed_by_callee : Program
changed_by_callee = program two_ints (1 ∷ []) (procedure (ByCopy (OfShape 1) ∷ []) [] (Then (set 2 (global_at 0 (item 1 1)) (int 5)) (only (put 3 (show (number (local_at 0 (item 1 1))) NoneShown)))) 9 ∷ [])
    (var_from 1 1 (Global 0 ∷ []) (WithParts 1 (AndStart (from (int 1)) (AndStart (from (int 2)) NoStart))) (only (call 5 0 (shared (global 0) NoActual))))

row_changed_by_callee : within 9 changed_by_callee [] ≡ comes (line (codes "1")) Ends 55
unfolding ◌>>=◌ give raise stop lost look change consult pay happen note turn take_room scope handled digits
row_changed_by_callee = refl

row_changed_by_callee_by_reference : refers 9 changed_by_callee [] ≡ comes (line (codes "5")) Ends 55
unfolding ◌>>=◌ give raise stop lost look change consult pay happen note turn take_room scope handled digits
row_changed_by_callee_by_reference = refl

-- A root that is named in the scope of a `bind var`: bind var x to a, with x := 5 and put a.
abbrev root_named : Program
root_named = binds (Bind (on 3) 0 true (global 0) (Then (set 4 (local 0) (int 5)) put_a)) Empty

row_root_named : within 9 root_named [] ≡ comes (line (codes "1")) Ends 46
unfolding ◌>>=◌ give raise stop lost look change consult pay happen note turn take_room scope handled digits
row_root_named = refl

row_root_named_by_reference : refers 9 root_named [] ≡ comes (line (codes "5")) Ends 46
unfolding ◌>>=◌ give raise stop lost look change consult pay happen note turn take_room scope handled digits
row_root_named_by_reference = refl

-- A root that is changed in the scope of another bind: bind x to a, with a := 5 and put x.
abbrev root_changed : Program
root_changed = binds (Bind (on 3) 0 false (global 0) (Then (set 4 (global 0) (int 5)) (only (put 5 (show (number (local 0)) NoneShown))))) Empty

row_root_changed : within 9 root_changed [] ≡ comes (line (codes "1")) Ends 45
unfolding ◌>>=◌ give raise stop lost look change consult pay happen note turn take_room scope handled digits
row_root_changed = refl

row_root_changed_by_reference : refers 9 root_changed [] ≡ comes (line (codes "5")) Ends 45
unfolding ◌>>=◌ give raise stop lost look change consult pay happen note turn take_room scope handled digits
row_root_changed_by_reference = refl

-- Two names of one root: bind var x to a, var y to a, with x := 1 and y := 2, and put a behind the block. Names are copied back in the reverse
-- of their order, so x is the last. In their order both meanings would give 2.
abbrev bound_to_one : Program
bound_to_one = binds (Bind (on 3) 0 true (global 0) (Bind (on 3) 1 true (global 0) (Then (set 4 (local 0) (int 1)) (only (set 5 (local 1) (int 2)))))) put_a

row_bound_to_one : within 9 bound_to_one [] ≡ comes (line (codes "1")) Ends 52
unfolding ◌>>=◌ give raise stop lost look change consult pay happen note turn take_room scope handled digits
row_bound_to_one = refl

row_bound_to_one_by_reference : refers 9 bound_to_one [] ≡ comes (line (codes "2")) Ends 52
unfolding ◌>>=◌ give raise stop lost look change consult pay happen note turn take_room scope handled digits
row_bound_to_one_by_reference = refl

-- Two elements are exchanged: var a : array 1 .. 2 of int := init (3, 4), var i : int := 1, and swap (a (i), a (i + 1)), whose body is
-- var t : int := x, x := y, y := t. Lines 1 and 2 cost 11. The call: its statement, paths of 3 and 5, a test, the turn, and two formals. The body
-- costs 9, and the output 1 + 36 + 36 + 1.
abbrev exchanged : Program
exchanged = program two_ints (1 ∷ (0 ∷ [])) (procedure (by_var 0 ∷ (by_var 0 ∷ [])) (Declared 0 ∷ []) (var_from 4 0 (Local 2 ∷ []) (from (number (local 0))) (Then (set 5 (local 0) (number (local 1))) (only (set 6 (local 1) (number (local 2)))))) 7 ∷ [])
    (var_from 1 1 (Global 0 ∷ []) (WithParts 1 (AndStart (from (int 3)) (AndStart (from (int 4)) NoStart))) (var_from 2 0 (Global 1 ∷ []) (from (int 1))
    (Then (call 8 0 (lent (global_at 0 (item_at 1 (number (global 1)))) (lent (global_at 0 (item_at 1 (plus (number (global 1)) (int 1)))) NoActual)))
    (only (put 9 (show (number (global_at 0 (item 1 1))) (show (number (global_at 0 (item 1 2))) NoneShown)))))))

row_exchanged : within 9 exchanged [] ≡ comes (line (codes "43")) Ends 107
unfolding ◌>>=◌ give raise stop lost look change consult pay happen note turn take_room scope handled digits
row_exchanged = refl

row_exchanged_by_reference : refers 9 exchanged [] ≡ comes (line (codes "43")) Ends 107
unfolding ◌>>=◌ give raise stop lost look change consult pay happen note turn take_room scope handled digits
row_exchanged_by_reference = refl

row_bound_by_reference : refers 9 bound [] ≡ within 9 bound []
unfolding ◌>>=◌ give raise stop lost look change consult pay happen note turn take_room scope handled digits
row_bound_by_reference = refl

row_totalled_by_reference : refers 9 totalled [] ≡ within 9 totalled []
unfolding ◌>>=◌ give raise stop lost look change consult pay happen note turn take_room scope handled digits
row_totalled_by_reference = refl
