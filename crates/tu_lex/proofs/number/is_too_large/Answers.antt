use Rattle.std.proofs.Common.{◌<◌, ◌+◌, ◌*◌, get_or, refl, arith}
use Rattle.tu_token.specs.LexFaults.{value_after}
use Rattle.tu_lex.proofs.Digits.{stops}
use Rattle.tu_lex.proofs.number.is_too_large.Goals as goal

pub returns-then-number-gt-LARGEST : goal.returns-then-number-gt-LARGEST
returns-then-number-gt-LARGEST c =
    let above : 2147483647 < value_after 0 c.args.digits.now =
    stops c.args.digits.now c.loop-digit.digit-index c.loop-digit.number (get_or c.args.digits.now c.loop-digit.digit-index 0) (10 * c.loop-digit.number + c.saturating_sub.result)
    c.loop-digit-test.true refl c.loop-digit.invariant.value (omega arith) c.if-number-gt-LARGEST.true in
    grind arith
