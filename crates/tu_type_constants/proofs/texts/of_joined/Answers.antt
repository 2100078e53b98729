use Rattle.tu_base.specs.Texts.{joined}
use Rattle.tu_type_constants.specs.declared.constant.Constant.TheVariants.{NoConstant}
use Rattle.tu_type_constants.specs.Constants.{of_text}
use Rattle.tu_type_constants.proofs.texts.of_joined.Goals as goal

pub returns-in-Raising : goal.returns-in-Raising
returns-in-Raising c = rw c.in-Raising.is (c.beside_raising.ensures (λ a b. NoConstant) (λ a b. of_text (joined a b)))

pub returns-in-Is : goal.returns-in-Is
returns-in-Is c = rw c.in-Is.is (c.beside_other.ensures.of_texts (λ a b. of_text (joined a b)) c.in-Is.field-0)
