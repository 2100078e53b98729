use Rattle.std.proofs.Common.{get_or, refl, arith}
use Rattle.tu_run.proofs.Budgets.{value_stops}
use Rattle.tu_run.proofs.command.value.Goals as goal

pub returns-then-number-gt-LARGEST_BUDGET : goal.returns-then-number-gt-LARGEST_BUDGET
returns-then-number-gt-LARGEST_BUDGET c =
    value_stops c.args.digits.now c.loop-digit.digit-index c.loop-digit.number (get_or c.args.digits.now c.loop-digit.digit-index 0) 9223372036854775807
    c.loop-digit-test.true refl c.loop-digit.invariant.value (omega arith)
