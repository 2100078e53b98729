-- What stands in linear code: its values, its operations and its labels.
use Rattle.std.specs.Prelude.{◌≡◌, ◌≢◌, ℕ, ◌+◌, List, [], ◌∷◌, ◌++◌, All, Contains, ◌==◌, if◌then◌else◌}
use Rattle.std.specs.List.{AllZip}
use Rattle.ir_form.specs.declared.plain.Plain.{Plain as PlainOp}
use Rattle.ir_form.specs.declared.plain.Plain.TheVariants.{Call}
use Rattle.ir_form.specs.declared.unit.Routine.{Routine}
use Rattle.ir_form.specs.declared.unit.Unit.{Unit as RegionUnit}
use Rattle.ir_form.specs.Values.{marks_of}
use Rattle.ir_form.specs.Lawful.{plain_numbers, routine_numbers}
use Rattle.rv_flat.specs.declared.linear.Instruction.{Instruction}
use Rattle.rv_flat.specs.declared.linear.Instruction.TheVariants.{Plain, Guarded, Open, Branch, Within, Hand, Jump, Label, Back}
use Rattle.rv_flat.specs.declared.linear.LinearRoutine.{LinearRoutine}
use Rattle.rv_flat.specs.declared.linear.Linear.{Linear}

-- what each instruction has, in order
abbrev pub gathered : {X : Type 0} → (Instruction → List X) → List Instruction → List X
gathered part [] = []
gathered part (i ∷ is) = part i ++ gathered part is

-- the numbers of the values that an instruction names
abbrev pub instruction_numbers : Instruction → List ℕ
instruction_numbers (Plain p) = plain_numbers p
instruction_numbers (Guarded p h) = plain_numbers p ++ h.to
instruction_numbers (Open mark) = []
instruction_numbers (Branch relation left right label) = left ∷ right ∷ []
instruction_numbers (Within value range label) = value ∷ []
instruction_numbers (Hand to from) = to ++ from
instruction_numbers (Jump label) = []
instruction_numbers (Label label marked) = []
instruction_numbers (Back values) = values

abbrev pub linear_numbers : LinearRoutine → List ℕ
linear_numbers r = r.parameters ++ gathered instruction_numbers r.code

abbrev pub instruction_plains : Instruction → List PlainOp
instruction_plains (Plain p) = p ∷ []
instruction_plains (Guarded p h) = p ∷ []
instruction_plains _ = []

abbrev pub code_plains : List Instruction → List PlainOp
code_plains code = gathered instruction_plains code

-- the labels that stand there
abbrev pub instruction_labels : Instruction → List ℕ
instruction_labels (Label label marked) = label ∷ []
instruction_labels _ = []

-- the labels that are gone to
abbrev pub instruction_targets : Instruction → List ℕ
instruction_targets (Guarded p h) = h.label ∷ []
instruction_targets (Branch relation left right label) = label ∷ []
instruction_targets (Within value range label) = label ∷ []
instruction_targets (Jump label) = label ∷ []
instruction_targets _ = []

-- the marks of Guards
abbrev pub instruction_marks : Instruction → List ℕ
instruction_marks (Guarded p h) = h.mark ∷ []
instruction_marks (Open mark) = mark ∷ []
instruction_marks _ = []

abbrev pub linear_marks : LinearRoutine → List ℕ
linear_marks r = gathered instruction_marks r.code

-- code that has nothing of a Guard
abbrev pub IsUnguardedInstruction : Instruction → Type 0
IsUnguardedInstruction (Guarded p h) = ⊥
IsUnguardedInstruction (Open mark) = ⊥
IsUnguardedInstruction _ = Unit {0}

abbrev pub IsUnguardedCode : List Instruction → Type 0
IsUnguardedCode code = All IsUnguardedInstruction code

abbrev pub IsUnguarded : Linear → Type 0
IsUnguarded l = All (λ (r : LinearRoutine). IsUnguardedCode r.code) l.routines

-- a unit without Guards
abbrev pub IsUnguardedUnit : RegionUnit → Type 0
IsUnguardedUnit u = All (λ r. marks_of r ≡ []) u.routines

-- how often a label stands
abbrev pub times : ℕ → List Instruction → ℕ
times l [] = 0
times l (Label label marked ∷ is) = (if l == label then 1 else 0) + times l is
times l (_ ∷ is) = times l is

-- each label stands once, and so does each that is gone to
pub record HasItsLabels (code : List Instruction) : Type 0 where
  pub once : All (λ l. times l code ≡ 1) (gathered instruction_labels code)
  pub there : All (λ l. times l code ≡ 1) (gathered instruction_targets code)

-- no element stands twice
abbrev pub IsDistinct : List ℕ → Type 0
IsDistinct [] = Unit {0}
IsDistinct (x ∷ xs) = All (λ y. y ≢ x) xs × IsDistinct xs

-- the values that an operation takes at once
abbrev pub plain_takers : PlainOp → List (List ℕ)
plain_takers (Call routine arguments to line) = to ∷ []
plain_takers _ = []

abbrev pub instruction_takers : Instruction → List (List ℕ)
instruction_takers (Plain p) = plain_takers p
instruction_takers (Guarded p h) = h.to ∷ plain_takers p
instruction_takers (Hand to from) = to ∷ []
instruction_takers _ = []

-- where values are taken at once, none of them is taken twice
pub record TakesOnce (r : LinearRoutine) : Type 0 where
  pub parameters : IsDistinct r.parameters
  pub taken : All IsDistinct (gathered instruction_takers r.code)

-- what the linear code of a routine keeps of it, and no value and no Guard that the routine lacks
pub record KeepsRoutine (r : Routine) (s : LinearRoutine) : Type 0 where
  pub parameters : s.parameters ≡ r.body.parameters
  pub room : s.room ≡ r.room
  pub words : s.words ≡ r.words
  pub depth : s.depth ≡ r.depth
  pub values : All (Contains (routine_numbers r)) (linear_numbers s)
  pub marks : All (Contains (marks_of r)) (linear_marks s)

-- what the linear code of a unit keeps of it
pub record KeepsParts (u : RegionUnit) (l : Linear) : Type 0 where
  pub globals : l.globals ≡ u.globals
  pub main : l.main ≡ u.main
  pub texts : l.texts ≡ u.texts
  pub routines : AllZip KeepsRoutine u.routines l.routines
