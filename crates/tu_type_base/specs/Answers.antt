-- What code answers of a form: what it is where it is good, else the fault that is told, or want of memory, which may come at any time.
use Rattle.std.specs.Prelude.{◌≡◌, Result, Ok, Err}
use Rattle.tu_type_base.specs.declared.fault.Fault.{Fault}
use Rattle.tu_type_base.specs.declared.stop.Stop.{Stop}
use Rattle.tu_type_base.specs.declared.stop.Stop.TheVariants.{Told, Memory}
use Rattle.tu_type_base.specs.Checked.{Checked, Good, Faulty, least, lesser, ◌⊳◌}

abbrev pub IsTold : {A : Type 0} → Fault → Checked A → Type 0
IsTold f (Good a) = ⊥
IsTold f (Faulty g gs) = least g gs ≡ f

abbrev pub IsAnswer : {A : Type 0} → Result A Stop → Checked A → Type 0
IsAnswer (Ok a) x = x ≡ Good a
IsAnswer (Err (Told f)) x = IsTold f x
IsAnswer (Err Memory) x = Unit {0}

-- what is told of two parts without an answer
abbrev pub joined : Stop → Stop → Stop
joined Memory t = Memory
joined (Told f) Memory = Memory
joined (Told f) (Told g) = Told (lesser f g)

-- A form with a faulty part answers as the part does.
pub stopped : {A B : Type 0} (s : Stop) (x : Checked A) (f : A → Checked B) → IsAnswer {A = A} (Err s) x → IsAnswer {A = B} (Err s) (x ⊳ f)
stopped (Told g) (Good a) f h = absurd h
stopped (Told g) (Faulty i is) f h = h
stopped Memory x f h = tt
