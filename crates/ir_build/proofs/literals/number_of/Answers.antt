use Rattle.std.proofs.Common.{◌+◌, ◌*◌, get_or, refl, arith}
use Rattle.ir_build.proofs.Digits.{stops}
use Rattle.ir_build.proofs.literals.number_of.Goals as goal

pub returns-then-number-gt-LARGEST : goal.returns-then-number-gt-LARGEST
returns-then-number-gt-LARGEST c =
    stops c.args.digits.now c.loop-digit.digit-index c.loop-digit.number (get_or c.args.digits.now c.loop-digit.digit-index 0) (10 * c.loop-digit.number + c.saturating_sub.result)
    c.loop-digit-test.true refl c.loop-digit.invariant.value (omega arith) c.if-number-gt-LARGEST.true
