-- How much units weigh: their operations, the ranges of their cases, the parameters of their routines, the values that their calls define, the
-- values that are handed to calls, regions and the next rounds of loops, the values that regions and leaves give, and 16 for each routine. A
-- Guard's handler is handed two values.
use Rattle.std.specs.Prelude.{ℕ, ◌+◌, List, [], ◌∷◌, length, sum_by}
use Rattle.ir_form.specs.declared.plain.Plain.{Plain}
use Rattle.ir_form.specs.declared.plain.Plain.TheVariants.{Call}
use Rattle.ir_form.specs.declared.op.Op.{Op, Plain as Simple, If', Case', Loop', Guard', Leave, Row_of-Op, end_of-Op, more_of-Op, Row_of-Arm, end_of-Arm, more_of-Arm}
use Rattle.ir_form.specs.declared.unit.Routine.{Routine}
use Rattle.ir_form.specs.declared.unit.Unit.{Unit as Program}

-- what an operation with no region weighs: a call also its arguments and the values that it defines
abbrev pub plain_weight : Plain → ℕ
plain_weight (Call routine arguments to line) = 1 + length arguments + length to
plain_weight _ = 1

-- The results of a loop's body are handed to its next round, and count once. Those of the other regions are given.
abbrev mutual
  pub weight : Op → ℕ
  weight (Simple p) = plain_weight p
  weight (If' relation left right _ _ yes_ops yes_results _ _ no_ops no_results to) = 1 + (weight_all yes_ops + length yes_results) + (weight_all no_ops + length no_results)
  weight (Case' value _ arms _ _ others results to) = 1 + weight_arms arms + (weight_all others + length results)
  weight (Loop' marked start parameters _ body results to) = 1 + length start + (weight_all body + length results)
  weight (Guard' mark _ _ ops results _ _ others others_results to) = 3 + (weight_all ops + length results) + (weight_all others + length others_results)
  weight (Leave exit gives) = 1 + length gives

  pub weight_all : {n : _} → Row_of-Op n → ℕ
  weight_all end_of-Op = 0
  weight_all (more_of-Op op ops) = weight op + weight_all ops

  pub weight_arms : {n : _} → Row_of-Arm n → ℕ
  weight_arms end_of-Arm = 0
  weight_arms (more_of-Arm ranges _ _ ops results arms) = length ranges + (weight_all ops + length results) + weight_arms arms

abbrev pub weight_list : List Op → ℕ
weight_list [] = 0
weight_list (op ∷ ops) = weight op + weight_list ops

abbrev pub routine_weight : Routine → ℕ
routine_weight r = 16 + length r.body.parameters + (weight_list r.body.ops + length r.body.results)

abbrev pub unit_weight : Program → ℕ
unit_weight u = sum_by routine_weight u.routines
