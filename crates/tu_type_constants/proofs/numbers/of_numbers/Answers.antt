use Rattle.tu_base.specs.Scalars.{binary}
use Rattle.tu_type_constants.specs.declared.constant.Constant.TheVariants.{NoConstant}
use Rattle.tu_type_constants.specs.Constants.{of_number}
use Rattle.tu_type_constants.proofs.numbers.of_numbers.Goals as goal

pub returns-in-Raising : goal.returns-in-Raising
returns-in-Raising c = rw c.in-Raising.is (c.beside_raising.ensures (λ a b. of_number (binary c.args.operator a b)) (λ a b. NoConstant))

pub returns-in-IsText : goal.returns-in-IsText
returns-in-IsText c = rw c.in-IsText.is (c.beside_other.ensures.of_numbers (λ a b. of_number (binary c.args.operator a b)) c.in-IsText.field-0)
