-- Runs that give an int, and runs that raise an exception.
use Rattle.std.proofs.Common.{◌≡◌, ℕ, ◌+◌, ◌<◌, ◌≤◌, Bool, true, false, List, refl, arith, Some, ap, ◌∙◌, sym, subst}
use Rattle.std.specs.Prelude.{ℤ, if◌then◌else◌}
use Rattle.tu_base.specs.declared.kind.Kind.{Kind}
use Rattle.tu_base.specs.declared.kind.Kind.TheVariants as kind
use Rattle.tu_base.specs.Kind.{kind_number}
use Rattle.tu_base.specs.Scalars.{Gives, Raises, is_int, exact}
use Rattle.ir_form.specs.Meaning.{run_list}
use Rattle.ir_form.specs.Place.{Setting}
use Rattle.ir_form.specs.Plain.{Calls}
use Rattle.ir_form.specs.State.{State, Run}
use Rattle.ir_form.specs.declared.op.Op.{Op}
use Rattle.ir_code.proofs.Steps.{set, set_below, AllGo, AllStop}
use Rattle.tu_value.specs.Words.{word_of_int}
use Rattle.tu_value.specs.Meets.{OnlyFrom, GivesInt, RaisesAt, Meets}

pub unchanged : (n : ℕ) (st : State) → OnlyFrom n st st
unchanged n st = record { same = refl; kept = λ j lt. refl }

pub also : (n x w : ℕ) {st su : State} → n ≤ x → OnlyFrom n st su → OnlyFrom n st (set su x w)
also n x w {su = su} le o = record { same = ap (λ s. set s x w) o.same; kept = λ j lt. set_below su.env x w j (omega arith) ∙ o.kept j lt }

-- a value below another one that is set
pub past : (st : State) (x w j : ℕ) {v : ℕ} → j < x → st.env j ≡ Some v → (set st x w).env j ≡ Some v
past st x w j lt e = set_below st.env x w j lt ∙ e

-- a value below those that have changed
pub held : {n : ℕ} {st su : State} (j : ℕ) {v : ℕ} → OnlyFrom n st su → j < n → st.env j ≡ Some v → su.env j ≡ Some v
held j o lt e = o.kept j lt ∙ e

pub gives_int : {g : Setting} {calls : Calls} {ops : List Op} {n at most c k : ℕ} (z : ℤ) {st su : State} → AllGo g calls ops st c su k → OnlyFrom n st su → su.env at ≡ Some (word_of_int z) → is_int z ≡ true → c ≤ k → k ≤ c + most → GivesInt n at most z st c (run_list g calls ops st c)
gives_int {n = n} {at = at} {most = most} {c = c} z {st = st} e o w s lo hi = subst (λ r. GivesInt n at most z st c r) (sym e.is) (record { how = refl; only = o; result = w; small = s; costs = record { begun = lo; bound = hi } })

pub raises_at : {g : Setting} {calls : Calls} {ops : List Op} {line n most c k : ℕ} (kind : Kind) {st su : State} → AllStop g calls ops st c (kind_number kind) line su k → OnlyFrom n st su → c ≤ k → k ≤ c + most → RaisesAt line n most kind st c (run_list g calls ops st c)
raises_at {line = line} {n = n} {most = most} {c = c} kind {st = st} e o lo hi = subst (λ r. RaisesAt line n most kind st c r) (sym e.is) (record { how = refl; only = o; costs = record { begun = lo; bound = hi } })

by_test : (b : Bool) (line n at most : ℕ) (z : ℤ) (st : State) (c : ℕ) (r : Run) → (b ≡ true → GivesInt n at most z st c r) → (b ≡ false → RaisesAt line n most kind.Overflow st c r) → Meets line n at most (if b then Gives z 0 else Raises kind.Overflow 0) st c r
by_test true line n at most z st c r f h = f refl
by_test false line n at most z st c r f h = h refl

-- the exact result
pub exact_meets : (line n at most : ℕ) (z : ℤ) (st : State) (c : ℕ) (r : Run) → (is_int z ≡ true → GivesInt n at most z st c r) → (is_int z ≡ false → RaisesAt line n most kind.Overflow st c r) → Meets line n at most (exact z) st c r
exact_meets line n at most z st c r f h = by_test (is_int z) line n at most z st c r f h

-- by what a test says
pub on_test : {P : Type 0} (b : Bool) → (b ≡ true → P) → (b ≡ false → P) → P
on_test true f h = f refl
on_test false f h = h refl
