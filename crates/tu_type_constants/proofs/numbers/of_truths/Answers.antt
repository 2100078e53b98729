use Rattle.std.proofs.Common.{◌∙◌}
use Rattle.tu_type_constants.specs.declared.constant.Constant.TheVariants.{NoConstant}
use Rattle.tu_type_constants.proofs.Beside.{raising_left}
use Rattle.tu_type_constants.proofs.numbers.of_truths.Goals as goal

pub returns-in-Raising : goal.returns-in-Raising
returns-in-Raising c = rw c.in-Raising.is (c.beside_raising.ensures (λ a b. NoConstant) (λ a b. NoConstant) ∙ raising_left c.args.operator c.args.y)
