use Rattle.std.proofs.Common.{arith}
use Rattle.tu_room_parts.proofs.Sums.{begun, next, all}
use Rattle.tu_room_counts.proofs.StatementRows.{sum_shown}
use Rattle.tu_room_counts.proofs.plain.shown.Goals as goal

pub loop-x-init : goal.loop-x-init
loop-x-init c = begun (sum_shown c.args.count.now) (omega arith) c.args.xs.now

pub loop-x-preserved : goal.loop-x-preserved
loop-x-preserved c = next (sum_shown c.args.count.now) c.args.xs.now c.loop-x.x-index c.loop-x.sum c.plus-sum.result c.x-item.result c.loop-x.invariant c.loop-x-test.true c.x-item.is (grind (arith, c.plus-sum.ensures, c.one_shown.ensures))

pub returns : goal.returns
returns c = all (sum_shown c.args.count.now) c.args.xs.now c.loop-x.x-index c.loop-x.sum c.loop-x.invariant c.loop-x-test.false
