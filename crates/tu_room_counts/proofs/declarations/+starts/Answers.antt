use Rattle.std.proofs.Common.{arith}
use Rattle.tu_room_parts.proofs.Sums.{begun, next, all}
use Rattle.tu_room_counts.proofs.StatementRows.{sum_starts}
use Rattle.tu_room_counts.proofs.StatementLow.{start_low}
use Rattle.tu_room_counts.proofs.declarations.+starts.Goals as goal

pub starts-loop-x-init : goal.starts-loop-x-init
starts-loop-x-init t c = begun (sum_starts c.args.count.now) (omega arith) c.args.xs.now

pub starts-start-requires : goal.starts-start-requires
starts-start-requires t c =
    let low = start_low c.args.xs.now c.loop-x.x-index c.x-item.result c.loop-x-test.true c.x-item.is in
    (grind (arith, c.decreases, low), tt)

pub starts-loop-x-preserved : goal.starts-loop-x-preserved
starts-loop-x-preserved t c = next (sum_starts c.args.count.now) c.args.xs.now c.loop-x.x-index c.loop-x.sum c.plus-sum.result c.x-item.result c.loop-x.invariant c.loop-x-test.true c.x-item.is (grind (arith, c.plus-sum.ensures, c.start.ensures))

pub starts-returns : goal.starts-returns
starts-returns t c = all (sum_starts c.args.count.now) c.args.xs.now c.loop-x.x-index c.loop-x.sum c.loop-x.invariant c.loop-x-test.false
