use Rattle.tu_base.specs.Texts.{compare_texts}
use Rattle.tu_type_constants.specs.declared.constant.Constant.TheVariants.{NoConstant}
use Rattle.tu_type_constants.specs.Constants.{of_truth}
use Rattle.tu_type_constants.proofs.texts.of_texts.Goals as goal

pub returns-in-Raising : goal.returns-in-Raising
returns-in-Raising c = rw c.in-Raising.is (c.beside_raising.ensures (λ a b. NoConstant) (λ a b. of_truth (compare_texts c.args.relation a b)))

pub returns-in-Is : goal.returns-in-Is
returns-in-Is c = rw c.in-Is.is (c.beside_other.ensures.of_texts (λ a b. of_truth (compare_texts c.args.relation a b)) c.in-Is.field-0)
