use Rattle.std.proofs.Common.{◌-◌, arith}
use Rattle.tu_acts.proofs.StatementLow.{start_low}
use Rattle.tu_acts.proofs.declarations.+starts.Goals as goal

pub starts-start-requires : goal.starts-start-requires
starts-start-requires t c =
    let low = start_low c.args.xs.now (c.loop-place.place - 1) c.index-xs-place.result (omega (arith, c.loop-place-test.true, c.loop-place.auto.place)) c.index-xs-place.is in
    (grind (arith, c.decreases, low), tt)
