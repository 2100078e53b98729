-- When a unit is valid.
use Rattle.std.specs.Prelude.{◌≡◌, ◌≢◌, ℕ, ◌+◌, ◌*◌, ◌<◌, ◌≤◌, Bool, true, false, ◌==◌, if◌then◌else◌, List, [], ◌∷◌, ◌++◌, length, All, Contains, Option, Some, IsSomeAnd, slice_get, count_by}
use Rattle.ir_form.specs.declared.plain.Plain.{Plain}
use Rattle.ir_form.specs.declared.plain.Plain.TheVariants.{Global, Frame, Text, Call, Raise, Throw, Take, Give}
use Rattle.ir_form.specs.declared.op.Exit.{Exit}
use Rattle.ir_form.specs.declared.op.Exit.TheVariants.{Routine as OfRoutine, Loop as OfLoop}
use Rattle.ir_form.specs.declared.op.Op.{Op, Plain as Simple, If', Case', Loop', Guard', Leave, Row_of-Op, end_of-Op, more_of-Op, Row_of-Arm, end_of-Arm, more_of-Arm}
use Rattle.ir_form.specs.declared.op.Region.{Region}
use Rattle.ir_form.specs.declared.unit.Routine.{Routine}
use Rattle.ir_form.specs.declared.unit.Unit.{Unit as Program}
use Rattle.ir_form.specs.Values.{used, given, values_of, marks_of}

-- what lies before and around an operation: the values that are defined so far in its region and in those around it, how many values each loop
-- around it takes where it is left, with the innermost first, and the numbers of the Guards in whose bodies it lies
pub record Scope : Type 0 where
  pub values : List ℕ
  pub loops : List ℕ
  pub marks : List ℕ

-- a scope with more values, one within a further loop, and one within the body of a Guard
abbrev pub with : Scope → List ℕ → Scope
with s more = record s { values = s.values ++ more }

abbrev pub looped : Scope → ℕ → Scope
looped s takes = record s { loops = takes ∷ s.loops }

abbrev pub guarded : Scope → ℕ → Scope
guarded s mark = record s { marks = mark ∷ s.marks }

-- where a routine begins
abbrev pub outermost : Scope
outermost = record { values = []; loops = []; marks = [] }

abbrev pub Sees : Scope → List ℕ → Type 0
Sees s wanted = All (Contains s.values) wanted

-- a Guard lies in the body of no Guard of its number
abbrev pub IsNew : Scope → ℕ → Type 0
IsNew s mark = ¬ Contains s.marks mark

-- A call hands over and takes as many values as the routine does. From a routine of the run time it goes to a smaller depth.
pub record IsCall (caller callee : Routine) (arguments to : List ℕ) : Type 0 where
  pub handed : length arguments ≡ length callee.body.parameters
  pub taken : length to ≡ callee.results
  pub depth : caller.depth ≢ 0 → (callee.depth ≢ 0) × (callee.depth < caller.depth)

-- What an operation with no region names is there, and it stands in no routine that may not have it.
abbrev pub IsPlaced : Program → Routine → Plain → Type 0
IsPlaced u r (Global to word) = word < u.globals
IsPlaced u r (Frame to word) = word < r.words
IsPlaced u r (Text to byte) = byte < length u.texts
IsPlaced u r (Call routine arguments to line) = IsSomeAnd (slice_get u.routines routine) (λ callee. IsCall r callee arguments to)
IsPlaced u r (Take to words line) = r.depth ≡ 0
IsPlaced u r (Give words) = r.depth ≡ 0
IsPlaced u r _ = Unit

-- how many values are taken where a routine or a loop is left, if it is there
abbrev pub taken_at : Routine → Scope → Exit → Option ℕ
taken_at r s OfRoutine = Some r.results
taken_at r s (OfLoop outside) = slice_get s.loops outside

-- whether an operation ends its region for good
abbrev pub leaves : Op → Bool
leaves (Simple (Raise kind line)) = true
leaves (Simple (Throw kind line)) = true
leaves (Leave exit gives) = true
leaves _ = false

-- whether the last of some operations does, or what was before them where there are none
abbrev pub leaves_last : Bool → {n : _} → Row_of-Op n → Bool
leaves_last before end_of-Op = before
leaves_last before (more_of-Op op ops) = leaves_last (leaves op) ops

abbrev pub leaves_list : Bool → List Op → Bool
leaves_list before [] = before
leaves_list before (op ∷ ops) = leaves_list (leaves op) ops

abbrev pub given_all : {n : _} → Row_of-Op n → List ℕ
given_all end_of-Op = []
given_all (more_of-Op op ops) = given op ++ given_all ops

abbrev pub given_list : List Op → List ℕ
given_list [] = []
given_list (op ∷ ops) = given op ++ given_list ops

-- A region takes as many values as are handed to it. It gives values that it sees at its end, as many as are taken, or none where it leaves for
-- good.
pub record IsClosed (s : Scope) (handed : ℕ) (parameters inner : List ℕ) (gone : Bool) (results : List ℕ) (taken : ℕ) : Type 0 where
  pub parameters_handed : length parameters ≡ handed
  pub results_seen : Sees (with (with s parameters) inner) results
  pub results_taken : length results ≡ (if gone then 0 else taken)

-- An operation that fits where it lies: what it uses and names is there, and as many values are handed and given as are taken.
abbrev mutual
  pub Fits : Program → Routine → Scope → Op → Type 0
  Fits u r s (Simple p) = Sees s (used p) × IsPlaced u r p
  Fits u r s (If' relation left right yes_parameters _ yes_ops yes_results no_parameters _ no_ops no_results to) =
      Sees s (left ∷ right ∷ []) × FitsAll u r (with s yes_parameters) yes_ops × IsClosed s 0 yes_parameters (given_all yes_ops) (leaves_last false yes_ops) yes_results (length to)
      × FitsAll u r (with s no_parameters) no_ops × IsClosed s 0 no_parameters (given_all no_ops) (leaves_last false no_ops) no_results (length to)
  Fits u r s (Case' value _ arms parameters _ ops results to) =
      Sees s (value ∷ []) × FitsArms u r s (length to) arms × FitsAll u r (with s parameters) ops × IsClosed s 0 parameters (given_all ops) (leaves_last false ops) results (length to)
  Fits u r s (Loop' marked start parameters _ ops results to) =
      Sees s start × FitsAll u r (with (looped s (length to)) parameters) ops × IsClosed s (length start) parameters (given_all ops) (leaves_last false ops) results (length parameters)
  Fits u r s (Guard' mark body_parameters _ ops results parameters _ others others_results to) =
      IsNew s mark × FitsAll u r (with (guarded s mark) body_parameters) ops × IsClosed s 0 body_parameters (given_all ops) (leaves_last false ops) results (length to)
      × FitsAll u r (with s parameters) others × IsClosed s 2 parameters (given_all others) (leaves_last false others) others_results (length to)
  Fits u r s (Leave exit gives) = Sees s gives × (taken_at r s exit ≡ Some (length gives))

  pub FitsAll : Program → Routine → Scope → {n : _} → Row_of-Op n → Type 0
  FitsAll u r s end_of-Op = Unit
  FitsAll u r s (more_of-Op op ops) = Fits u r s op × FitsAll u r (with s (given op)) ops

  pub FitsArms : Program → Routine → Scope → ℕ → {n : _} → Row_of-Arm n → Type 0
  FitsArms u r s taken end_of-Arm = Unit
  FitsArms u r s taken (more_of-Arm ranges parameters _ ops results arms) =
      FitsAll u r (with s parameters) ops × IsClosed s 0 parameters (given_all ops) (leaves_last false ops) results taken × FitsArms u r s taken arms

abbrev pub FitsList : Program → Routine → Scope → List Op → Type 0
FitsList u r s [] = Unit
FitsList u r s (op ∷ ops) = Fits u r s op × FitsList u r (with s (given op)) ops

-- a region that is handed so many values, and of which so many are taken
abbrev pub FitsRegion : Program → Routine → Scope → ℕ → ℕ → Region → Type 0
FitsRegion u r s handed taken region =
    FitsList u r (with s region.parameters) region.ops × IsClosed s handed region.parameters (given_list region.ops) (leaves_list false region.ops) region.results taken

abbrev pub IsOnce : List ℕ → ℕ → Type 0
IsOnce values value = count_by (λ x. x == value) values ≡ 1

-- a routine that may stand in a unit
pub record IsValidRoutine (u : Program) (r : Routine) : Type 0 where
  pub once : All (IsOnce (values_of r)) (values_of r)
  pub body : FitsRegion u r outermost (length r.body.parameters) r.results r.body
  pub room : r.words + length (values_of r) + 24 * length (marks_of r) + 32 ≤ r.room
  pub depth : r.depth ≤ 8
  pub small : r.depth ≢ 0 → r.room ≤ 512

-- the main program's routine
pub record IsMain (r : Routine) : Type 0 where
  pub depth : r.depth ≡ 0
  pub room : r.room ≤ 8388608
  pub parameters : r.body.parameters ≡ []
  pub results : r.results ≡ 0

pub record IsValid (u : Program) : Type 0 where
  pub routines : All (IsValidRoutine u) u.routines
  pub main : IsSomeAnd (slice_get u.routines u.main) IsMain
