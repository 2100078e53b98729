use Rattle.std.proofs.Common.{arith}
use Rattle.tu_acts.proofs.Adding.{next_at}
use Rattle.tu_acts.proofs.StatementRows.{add_variables}
use Rattle.tu_acts.proofs.declarations.variables.Goals as goal

pub loop-place-preserved : goal.loop-place-preserved
loop-place-preserved c =
    next_at (add_variables c.args.at) c.args.xs.now c.loop-place.place _ c.args.acts.now c.loop-place.acts c.add.new.self c.loop-place.invariant (omega (arith, c.loop-place-test.true)) c.loop-place.auto.place c.in_ok-add.ensures
