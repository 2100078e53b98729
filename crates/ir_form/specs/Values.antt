-- The values that operations use and define.
use Rattle.std.specs.Prelude.{ℕ, List, [], ◌∷◌, ◌++◌}
use Rattle.rv_isa.specs.declared.service.Service.{Service}
use Rattle.rv_isa.specs.declared.service.Service.TheVariants.{End, Stop, PutConsole, GetConsole, Open, Close, PutStream, GetStream, State}
use Rattle.ir_form.specs.declared.plain.Plain.{Plain}
use Rattle.ir_form.specs.declared.plain.Plain.TheVariants.{Constant, Global, Heap, Frame, Text, Compute, Load, Store, Ask, Call, Raise, Throw, Take, Give}
use Rattle.ir_form.specs.declared.op.Op.{Op, Plain as Simple, If', Case', Loop', Guard', Leave, Row_of-Op, end_of-Op, more_of-Op, Row_of-Arm, end_of-Arm, more_of-Arm}
use Rattle.ir_form.specs.declared.op.Region.{Region}
use Rattle.ir_form.specs.declared.op.Arm.{Arm}
use Rattle.ir_form.specs.declared.unit.Routine.{Routine}

-- the values that a service names
abbrev pub asked : Service → List ℕ
asked End = []
asked (Stop kind line) = kind ∷ line ∷ []
asked (PutConsole at size) = at ∷ size ∷ []
asked GetConsole = []
asked (Open at size mode) = at ∷ size ∷ mode ∷ []
asked (Close stream) = stream ∷ []
asked (PutStream stream at size) = stream ∷ at ∷ size ∷ []
asked (GetStream stream) = stream ∷ []
asked (State stream) = stream ∷ []

-- the values that an operation with no region uses
abbrev pub used : Plain → List ℕ
used (Constant to word) = []
used (Global to word) = []
used (Heap to) = []
used (Frame to word) = []
used (Text to byte) = []
used (Compute to op left right) = left ∷ right ∷ []
used (Load to width at) = at ∷ []
used (Store width at from) = at ∷ from ∷ []
used (Ask to service) = asked service
used (Call routine arguments to line) = arguments
used (Raise kind line) = []
used (Throw kind line) = kind ∷ line ∷ []
used (Take to words line) = words ∷ []
used (Give words) = words ∷ []

-- the values that it defines
abbrev pub made : Plain → List ℕ
made (Constant to word) = to ∷ []
made (Global to word) = to ∷ []
made (Heap to) = to ∷ []
made (Frame to word) = to ∷ []
made (Text to byte) = to ∷ []
made (Compute to op left right) = to ∷ []
made (Load to width at) = to ∷ []
made (Store width at from) = []
made (Ask to service) = to ∷ []
made (Call routine arguments to line) = to
made (Raise kind line) = []
made (Throw kind line) = []
made (Take to words line) = to ∷ []
made (Give words) = []

-- the values that an operation defines for what follows it in its region
abbrev pub given : Op → List ℕ
given (Simple p) = made p
given (If' relation left right yes_parameters _ yes_ops yes_results no_parameters _ no_ops no_results to) = to
given (Case' value _ arms parameters _ others results to) = to
given (Loop' marked start parameters _ body results to) = to
given (Guard' mark body_parameters _ ops results parameters _ others others_results to) = to
given (Leave exit gives) = []

-- all values that operations define, those inside their regions too, in their order
abbrev mutual
  pub defined : Op → List ℕ
  defined (Simple p) = made p
  defined (If' relation left right yes_parameters _ yes_ops yes_results no_parameters _ no_ops no_results to) = (yes_parameters ++ defined_all yes_ops) ++ ((no_parameters ++ defined_all no_ops) ++ to)
  defined (Case' value _ arms parameters _ others results to) = defined_arms arms ++ ((parameters ++ defined_all others) ++ to)
  defined (Loop' marked start parameters _ body results to) = (parameters ++ defined_all body) ++ to
  defined (Guard' mark body_parameters _ ops results parameters _ others others_results to) = (body_parameters ++ defined_all ops) ++ ((parameters ++ defined_all others) ++ to)
  defined (Leave exit gives) = []

  pub defined_all : {n : _} → Row_of-Op n → List ℕ
  defined_all end_of-Op = []
  defined_all (more_of-Op op ops) = defined op ++ defined_all ops

  pub defined_arms : {n : _} → Row_of-Arm n → List ℕ
  defined_arms end_of-Arm = []
  defined_arms (more_of-Arm ranges parameters _ ops results arms) = (parameters ++ defined_all ops) ++ defined_arms arms

abbrev pub defined_list : List Op → List ℕ
defined_list [] = []
defined_list (op ∷ ops) = defined op ++ defined_list ops

-- the numbers of the Guards among operations, those inside regions too, in their order
abbrev mutual
  pub marks : Op → List ℕ
  marks (Simple p) = []
  marks (If' relation left right _ _ yes_ops yes_results _ _ no_ops no_results to) = marks_all yes_ops ++ marks_all no_ops
  marks (Case' value _ arms _ _ others results to) = marks_arms arms ++ marks_all others
  marks (Loop' marked start _ _ body results to) = marks_all body
  marks (Guard' mark _ _ ops results _ _ others others_results to) = mark ∷ (marks_all ops ++ marks_all others)
  marks (Leave exit gives) = []

  pub marks_all : {n : _} → Row_of-Op n → List ℕ
  marks_all end_of-Op = []
  marks_all (more_of-Op op ops) = marks op ++ marks_all ops

  pub marks_arms : {n : _} → Row_of-Arm n → List ℕ
  marks_arms end_of-Arm = []
  marks_arms (more_of-Arm ranges _ _ ops results arms) = marks_all ops ++ marks_arms arms

abbrev pub marks_list : List Op → List ℕ
marks_list [] = []
marks_list (op ∷ ops) = marks op ++ marks_list ops

abbrev pub marks_each : List Arm → List ℕ
marks_each [] = []
marks_each (arm ∷ arms) = marks_list arm.region.ops ++ marks_each arms

abbrev pub defined_region : Region → List ℕ
defined_region region = region.parameters ++ defined_list region.ops

abbrev pub defined_each : List Arm → List ℕ
defined_each [] = []
defined_each (arm ∷ arms) = defined_region arm.region ++ defined_each arms

-- all values of a routine
abbrev pub values_of : Routine → List ℕ
values_of r = defined_region r.body

-- the numbers of all Guards of a routine
abbrev pub marks_of : Routine → List ℕ
marks_of r = marks_list r.body.ops
