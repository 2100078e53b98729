-- The linear code of region code.
use Rattle.std.specs.Prelude.{ℕ, ◌+◌, List, [], ◌∷◌, ◌++◌, Option, Some, None, false, reverse, length, slice_get, map}
use Rattle.rv_isa.specs.declared.instr.Relation.{Relation}
use Rattle.ir_form.specs.declared.plain.Plain.{Plain as PlainOp}
use Rattle.ir_form.specs.declared.op.Op.{Op, Plain as Simple, If', Case', Loop', Guard', Leave, Row_of-Op, end_of-Op, more_of-Op, Row_of-Arm, end_of-Arm, more_of-Arm}
use Rattle.ir_form.specs.declared.op.Exit.{Exit}
use Rattle.ir_form.specs.declared.op.Exit.TheVariants.{Routine as the_routine, Loop as the_loop}
use Rattle.ir_form.specs.declared.op.Range.{Range}
use Rattle.ir_form.specs.declared.op.Arm.{Arm}
use Rattle.ir_form.specs.declared.op.Region.{Region}
use Rattle.ir_form.specs.declared.unit.Routine.{Routine}
use Rattle.ir_form.specs.declared.unit.Unit.{Unit as RegionUnit}
use Rattle.ir_form.specs.Meaning.{Cycle}
use Rattle.rv_flat.specs.declared.linear.Instruction.{Instruction}
use Rattle.rv_flat.specs.declared.linear.Instruction.TheVariants.{Plain, Guarded, Open, Branch, Within, Hand, Jump, Label, Back}
use Rattle.rv_flat.specs.declared.linear.LinearRoutine.{LinearRoutine}
use Rattle.rv_flat.specs.declared.linear.Linear.{Linear}
use Rattle.rv_flat.specs.declared.linear.Target.{Target}
use Rattle.rv_flat.specs.declared.linear.Handler.{Handler}

-- what lies around: the loops, the innermost first, and what takes an exception
pub record Around : Type 0 where
  pub loops : List Target
  pub handler : Option Handler

-- the innermost of some loops is the last
abbrev pub around_of : List Target → Option Handler → Around
around_of loops handler = record { loops = reverse loops; handler = handler }

abbrev pub nothing_around : Around
nothing_around = record { loops = []; handler = None }

abbrev pub in_loop : Target → Around → Around
in_loop t a = record a { loops = t ∷ a.loops }

abbrev pub in_guard : Handler → Around → Around
in_guard h a = record a { handler = Some h }

-- an exception of an operation in a Guard's body goes to the Guard's handler
abbrev pub plain_code : Option Handler → PlainOp → Instruction
plain_code None p = Plain p
plain_code (Some h) p = Guarded p h

-- an arm with no range is never come to, and has no code
abbrev pub arm_labels : List Range → ℕ → ℕ
arm_labels [] k = 0
arm_labels (r ∷ rs) k = k

abbrev pub arm_code : List Range → (end n : ℕ) → List Instruction → List Instruction
arm_code [] end n body = []
arm_code (r ∷ rs) end n body = Jump end ∷ Label n false ∷ body

-- how many labels the code has: two for an If, a Loop and a Guard, and for a Case one more than it has arms
abbrev mutual
  pub labels : Op → ℕ
  labels (Simple p) = 0
  labels (If' relation left right _ _ ops results _ _ others others_results to) = 2 + labels_all ops + labels_all others
  labels (Case' value _ arms _ _ ops results to) = 1 + arm_count arms + labels_all ops + labels_arms arms
  labels (Loop' marked start parameters _ ops results to) = 2 + labels_all ops
  labels (Guard' mark _ _ ops results _ _ others others_results to) = 2 + labels_all ops + labels_all others
  labels (Leave exit gives) = 0

  pub labels_all : {n : _} → Row_of-Op n → ℕ
  labels_all end_of-Op = 0
  labels_all (more_of-Op op ops) = labels op + labels_all ops

  pub labels_arms : {n : _} → Row_of-Arm n → ℕ
  labels_arms end_of-Arm = 0
  labels_arms (more_of-Arm ranges _ _ ops results arms) = arm_labels ranges (labels_all ops) + labels_arms arms

  pub arm_count : {n : _} → Row_of-Arm n → ℕ
  arm_count end_of-Arm = 0
  arm_count (more_of-Arm ranges _ _ ops results arms) = 1 + arm_count arms

-- nothing is to be done where no value is handed on
abbrev pub hand_code : (to from : List ℕ) → List Instruction
hand_code to [] = []
hand_code to (x ∷ xs) = Hand to (x ∷ xs) ∷ []

-- to a label behind a loop, or out of the routine
abbrev pub leave_code : Option Target → List ℕ → List Instruction
leave_code None values = Back values ∷ []
leave_code (Some t) values = hand_code t.to values ++ Jump t.label ∷ []

-- the loop that is left
abbrev pub target_of : Around → Exit → Option Target
target_of around the_routine = None
target_of around (the_loop k) = slice_get around.loops k

abbrev pub if_code : Relation → (left right : ℕ) → ℕ → (ops others : List Instruction) → List Instruction
if_code relation left right n ops others = Branch relation left right n ∷ (ops ++ Jump (n + 1) ∷ Label n false ∷ (others ++ Label (n + 1) false ∷ []))

-- the handler stands at the first label, and the second one behind it
abbrev pub guard_code : (mark n : ℕ) → (ops others : List Instruction) → List Instruction
guard_code mark n ops others = Open mark ∷ (ops ++ Jump (n + 1) ∷ Label n false ∷ (others ++ Label (n + 1) false ∷ []))

abbrev pub loop_code : Cycle → List ℕ → ℕ → List Instruction → List Instruction
loop_code y start n body = hand_code y.parameters start ++ Label n y.marked ∷ (body ++ (hand_code y.parameters y.results ++ Jump n ∷ Label (n + 1) false ∷ []))

abbrev pub range_tests : ℕ → ℕ → List Range → List Instruction
range_tests value n [] = []
range_tests value n (r ∷ rs) = Within value r n ∷ range_tests value n rs

abbrev pub tests : ℕ → ℕ → {k : _} → Row_of-Arm k → List Instruction
tests value n end_of-Arm = []
tests value n (more_of-Arm ranges _ _ ops results arms) = range_tests value n ranges ++ tests value (n + 1) arms

-- the code, whose labels begin at a number, within what lies around; of the arms of a Case the labels and those of their code begin at two numbers
abbrev mutual
  pub code_of : Around → ℕ → Op → List Instruction
  code_of around n (Simple p) = plain_code around.handler p ∷ []
  code_of around n (If' relation left right _ _ ops results _ _ others others_results to) =
      if_code relation left right n (code_all around (n + 2) ops ++ hand_code to results) (code_all around (n + 2 + labels_all ops) others ++ hand_code to others_results)
  code_of around n (Case' value _ arms _ _ ops results to) =
      tests value (n + 1) arms ++ ((code_all around (n + 1 + arm_count arms) ops ++ hand_code to results)
      ++ (code_arms around to n (n + 1) (n + 1 + arm_count arms + labels_all ops) arms ++ Label n false ∷ []))
  code_of around n (Loop' marked start parameters _ ops results to) =
      loop_code (record { marked = marked; parameters = parameters; results = results; to = to }) start n (code_all (in_loop (record { label = n + 1; to = to }) around) (n + 2) ops)
  code_of around n (Guard' mark _ _ ops results parameters _ others others_results to) =
      guard_code mark n (code_all (in_guard (record { label = n; mark = mark; to = parameters }) around) (n + 2) ops ++ hand_code to results) (code_all around (n + 2 + labels_all ops) others ++ hand_code to others_results)
  code_of around n (Leave exit values) = leave_code (target_of around exit) values

  pub code_all : Around → ℕ → {k : _} → Row_of-Op k → List Instruction
  code_all around n end_of-Op = []
  code_all around n (more_of-Op op ops) = code_of around n op ++ code_all around (n + labels op) ops

  pub code_arms : Around → List ℕ → (end n m : ℕ) → {k : _} → Row_of-Arm k → List Instruction
  code_arms around to end n m end_of-Arm = []
  code_arms around to end n m (more_of-Arm ranges _ _ ops results arms) =
      arm_code ranges end n (code_all around m ops ++ hand_code to results) ++ code_arms around to end (n + 1) (m + arm_labels ranges (labels_all ops)) arms

abbrev pub labels_list : List Op → ℕ
labels_list [] = 0
labels_list (op ∷ ops) = labels op + labels_list ops

abbrev pub code_list : Around → ℕ → List Op → List Instruction
code_list around n [] = []
code_list around n (op ∷ ops) = code_of around n op ++ code_list around (n + labels op) ops

abbrev pub region_code : Around → ℕ → List ℕ → Region → List Instruction
region_code around n to region = code_list around n region.ops ++ hand_code to region.results

abbrev pub labels_each : List Arm → ℕ
labels_each [] = 0
labels_each (arm ∷ arms) = arm_labels arm.ranges (labels_list arm.region.ops) + labels_each arms

abbrev pub tests_each : ℕ → ℕ → List Arm → List Instruction
tests_each value n [] = []
tests_each value n (arm ∷ arms) = range_tests value n arm.ranges ++ tests_each value (n + 1) arms

abbrev pub code_each : Around → List ℕ → (end n m : ℕ) → List Arm → List Instruction
code_each around to end n m [] = []
code_each around to end n m (arm ∷ arms) =
    arm_code arm.ranges end n (region_code around m to arm.region) ++ code_each around to end (n + 1) (m + arm_labels arm.ranges (labels_list arm.region.ops)) arms

abbrev pub case_code : Around → ℕ → ℕ → List Arm → Region → List ℕ → List Instruction
case_code around n value arms others to =
    tests_each value (n + 1) arms ++ (region_code around (n + 1 + length arms) to others ++ (code_each around to n (n + 1) (n + 1 + length arms + labels_list others.ops) arms ++ Label n false ∷ []))

-- what follows the branch of an If, the first label of a loop, and the opening of a Guard
abbrev pub choice_code : Around → ℕ → (first second : Region) → (to : List ℕ) → List Instruction
choice_code around n first second to =
    region_code around (n + 2) to first ++ Jump (n + 1) ∷ Label n false ∷ (region_code around (n + 2 + labels_list first.ops) to second ++ Label (n + 1) false ∷ [])

abbrev pub handling_code : Around → ℕ → (mark : ℕ) → (body handler : Region) → (to : List ℕ) → List Instruction
handling_code around n mark body handler to =
    region_code (in_guard (record { label = n; mark = mark; to = handler.parameters }) around) (n + 2) to body ++ Jump (n + 1) ∷ Label n false ∷ (region_code around (n + 2 + labels_list body.ops) to handler ++ Label (n + 1) false ∷ [])

abbrev pub rounds_code : Around → ℕ → (body : Region) → (to : List ℕ) → List Instruction
rounds_code around n body to = region_code (in_loop (record { label = n + 1; to = to }) around) (n + 2) body.parameters body ++ Jump n ∷ Label (n + 1) false ∷ []

-- the linear code of a routine, and of all
abbrev pub flat_routine : Routine → LinearRoutine
flat_routine r = record {
  parameters = r.body.parameters;
  code = code_list nothing_around 0 r.body.ops ++ Back r.body.results ∷ [];
  room = r.room;
  words = r.words;
  depth = r.depth;
}

abbrev pub flat_unit : RegionUnit → Linear
flat_unit u = record { globals = u.globals; main = u.main; routines = map flat_routine u.routines; texts = u.texts }
