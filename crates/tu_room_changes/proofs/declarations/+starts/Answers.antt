use Rattle.std.proofs.Common.{arith}
use Rattle.tu_room_counts.proofs.StatementLow.{start_low}
use Rattle.tu_room_changes.proofs.Grown.{begun, next, all}
use Rattle.tu_room_changes.proofs.StatementRows.{rows_of_starts}
use Rattle.tu_room_changes.proofs.declarations.+starts.Goals as goal

pub starts-loop-x-init : goal.starts-loop-x-init
starts-loop-x-init t c = begun

pub starts-start-requires : goal.starts-start-requires
starts-start-requires t c =
    let low = start_low c.args.xs.now c.loop-x.x-index c.x-item.result c.loop-x-test.true c.x-item.is in
    (grind (arith, c.decreases, low), tt)

pub starts-loop-x-preserved : goal.starts-loop-x-preserved
starts-loop-x-preserved t c = next rows_of_starts c.args.xs.now c.loop-x.x-index c.args.found.now c.loop-x.found c.start.new.found c.x-item.result c.loop-x.invariant c.loop-x-test.true c.x-item.is c.in_ok-start.ensures

pub starts-returns : goal.starts-returns
starts-returns t c = all rows_of_starts c.args.xs.now c.loop-x.x-index c.args.found.now c.loop-x.found c.loop-x.invariant c.loop-x-test.false
