-- Words that are taken or handed back, and places that are jumped to.
use Rattle.std.proofs.Common.{◌≡◌, ℕ, ◌+◌, ◌*◌, ◌/◌, ◌%◌, ◌<◌, ◌≤◌, ◌⊎◌, inl, inr, ⊎_elim, Bool, true, false, leb, ltb, List, Some, None, refl, arith, ap}
use Rattle.std.specs.Prelude.{if◌then◌else◌, ◌&&◌}
use Rattle.std.proofs.lemmas.Bool.{leb-true, ltb-true, ltb-false, le-leb, cases_lt}
use Rattle.rv_isa.specs.declared.instr.Instr.{Instr}
use Rattle.rv_isa.specs.Step.{Space}
use Rattle.ir_form.specs.Cells.{Cell, Closed, Unset, Fixed, byte_of, is_open}
use Rattle.rv_layout.specs.Held.{Code, IsEven}
use Rattle.rv_layout.proofs.Access.{both}

-- a byte of a range, and one outside it
pub inside_range : (x y a : ℕ) → (leb x a && ltb a y) ≡ true → (x ≤ a) × (a < y)
inside_range x y a h = let o = both (leb x a) (ltb a y) h in (leb-true x a o.0, ltb-true a y o.1)

and_false : (b c : Bool) → (b && c) ≡ false → b ≡ true → c ≡ false
and_false true c h e = h
and_false false c h e = absurd (cc)

pub outside_range : (x y a : ℕ) → (leb x a && ltb a y) ≡ false → (a < x) ⊎ (y ≤ a)
outside_range x y a h = ⊎_elim (λ lt. inl lt) (λ le. inr (ltb-false a y (and_false (leb x a) (ltb a y) h (le-leb x a le)))) (cases_lt a x)

-- what is not in a range that becomes unset or closed is as before
pub byte_before : (t : Bool) (new old : Cell) (b : ℕ) → byte_of new ≡ None → byte_of (if t then new else old) ≡ Some b → byte_of old ≡ Some b
byte_before true new old b n q = absurd (cc)
byte_before false new old b n q = q

pub fixed_before : (t : Bool) (new old : Cell) (b : ℕ) → byte_of new ≡ None → (if t then new else old) ≡ Fixed b → old ≡ Fixed b
fixed_before true new old b n q = let e : byte_of new ≡ Some b = ap byte_of q in absurd (cc)
fixed_before false new old b n q = q

-- a byte that is open behind the closing of a range
pub open_left : (t : Bool) (old : Cell) → is_open (if t then Closed else old) ≡ true → (t ≡ false) × (is_open old ≡ true)
open_left true old q = absurd (cc)
open_left false old q = (refl, q)

-- and one behind the opening of a range
pub open_now : (t : Bool) (old : Cell) → is_open (if t then Unset else old) ≡ true → (t ≡ true) ⊎ (is_open old ≡ true)
open_now true old q = inl refl
open_now false old q = inr q

-- code before a place that can be jumped to begins at one
pub code_even : (s : Space) (pc to : ℕ) (ops : List Instr) → Code s pc ops to → IsEven to → IsEven pc
code_even s pc to ops c e = let z = c.end in let a = e.even in let b = e.small in record { even = omega arith; small = omega arith }

pub jumped : (at : ℕ) → IsEven at → (at + 0) % 4294967296 / 2 * 2 ≡ at
jumped at e = let a = e.even in let b = e.small in omega arith
