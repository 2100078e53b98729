-- What comes of a right operand alone.
use Rattle.std.specs.Prelude.{◌≡◌, None}
use Rattle.std.proofs.Common.{refl}
use Rattle.tu_base.specs.declared.operator.Junction.{Junction}
use Rattle.tu_type_constants.specs.declared.constant.Constant.{Constant}
use Rattle.tu_type_constants.specs.declared.constant.Constant.TheVariants.{NoConstant, Raising, Is, IsText}
use Rattle.tu_type_constants.specs.Constants.{with_both, unless_decided, of_truths}

pub undecided : (y : Constant) → unless_decided None y ≡ y
undecided NoConstant = refl
undecided Raising = refl
undecided (Is z) = refl
undecided (IsText bytes) = refl

pub raising_left : (operator : Junction) (y : Constant) → with_both (λ a b. NoConstant) (λ a b. NoConstant) Raising y ≡ of_truths operator Raising y
raising_left operator NoConstant = refl
raising_left operator Raising = refl
raising_left operator (Is z) = refl
raising_left operator (IsText bytes) = refl
