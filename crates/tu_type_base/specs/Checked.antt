-- What a form comes to where its types are checked: something good, or faults.
use Rattle.std.specs.Prelude.{ℕ, ◌+◌, ◌*◌, Bool, nat_lt, List, [], ◌∷◌, ◌++◌, if◌then◌else◌}
use Rattle.grammar.specs.Tree.{Mark}
use Rattle.tu_type_base.specs.declared.fault.FaultKind.{FaultKind}
use Rattle.tu_type_base.specs.declared.fault.FaultKind.TheVariants.{Misplaced, Mismatch, NotConstant, OutOfRange, NotVariable, BadCount, TooLarge}
use Rattle.tu_type_base.specs.declared.fault.Fault.{Fault}

-- the order of kinds on one place
abbrev pub kind_number : FaultKind → ℕ
kind_number Misplaced = 0
kind_number Mismatch = 1
kind_number NotConstant = 2
kind_number OutOfRange = 3
kind_number NotVariable = 4
kind_number BadCount = 5
kind_number TooLarge = 6

-- the order of faults: by their places, and on one place by their kinds
abbrev pub fault_number : Fault → ℕ
fault_number f = 8 * f.start + kind_number f.kind

abbrev pub lesser : Fault → Fault → Fault
lesser f g = if nat_lt (fault_number g) (fault_number f) then g else f

-- the least of some faults
abbrev pub least : Fault → List Fault → Fault
least f [] = f
least f (g ∷ gs) = lesser f (least g gs)

-- All is well, and this is what the form is; or it has faults, of which the least is told.
pub data Checked (A : Type 0) : Type 0 where
  Good : A → Checked A
  Faulty : Fault → List Fault → Checked A

-- a form's own fault, at a place
abbrev pub fault : {A : Type 0} → FaultKind → Mark → Checked A
fault kind m = Faulty (record { kind = kind; start = m.start; line = m.line }) []

-- two parts of a form: it has the faults of both
abbrev pub both : {A B : Type 0} → Checked A → Checked B → Checked (A × B)
both (Good a) (Good b) = Good (a, b)
both (Good a) (Faulty f fs) = Faulty f fs
both (Faulty f fs) (Good b) = Faulty f fs
both (Faulty f fs) (Faulty g gs) = Faulty f (fs ++ g ∷ gs)

infixl 10 ◌⊳◌
-- What a form asks itself where its parts are good: a form with a faulty part has no fault of its own. So too what stands behind in a text:
-- what is faulty there has a greater place.
abbrev pub ◌⊳◌ : {A B : Type 0} → Checked A → (A → Checked B) → Checked B
Good a ⊳ f = f a
Faulty g gs ⊳ f = Faulty g gs

-- a test that a form asks of a part at a place
abbrev pub asks : Bool → FaultKind → Mark → Checked (Unit {0})
asks holds kind m = if holds then Good tt else fault kind m
