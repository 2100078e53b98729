use Rattle.std.proofs.Common.{arith}
use Rattle.tu_room_parts.proofs.Sums.{begun, next}
use Rattle.tu_room_counts.proofs.StatementRows.{sum_elsifs, sum_arms, sum_parts, block_low, default_low}
use Rattle.tu_room_counts.proofs.StatementLow.{elsif_low, arm_low, part_low, last_low, default_low as default_is_low}
use Rattle.tu_room_counts.proofs.statements.+statements.Goals as goal

pub elsifs-loop-x-init : goal.elsifs-loop-x-init
elsifs-loop-x-init t c = begun (sum_elsifs c.args.count.now c.args.last.now) (block_low c.args.count.now c.args.last.now) c.args.xs.now

pub elsifs-block-requires : goal.elsifs-block-requires
elsifs-block-requires t c =
    let low = elsif_low c.args.last.now c.args.xs.now c.loop-x.x-index c.x-item.result c.loop-x-test.true c.x-item.is in
    (grind (arith, c.decreases, low), tt)

pub elsifs-loop-x-preserved : goal.elsifs-loop-x-preserved
elsifs-loop-x-preserved t c = next (sum_elsifs c.args.count.now c.args.last.now) c.args.xs.now c.loop-x.x-index c.loop-x.sum c.plus-sum.result c.x-item.result c.loop-x.invariant c.loop-x-test.true c.x-item.is (grind (arith, c.plus-sum.ensures, c.plus.ensures, c.plus-arm.ensures, c.block.ensures, c.scalar.ensures, c.where_nodes.ensures))

pub arms-loop-x-init : goal.arms-loop-x-init
arms-loop-x-init t c = begun (sum_arms c.args.count.now c.args.last.now) (default_low c.args.count.now c.args.last.now) c.args.xs.now

pub arms-block-requires : goal.arms-block-requires
arms-block-requires t c =
    let low = arm_low c.args.last.now c.args.xs.now c.loop-x.x-index c.x-item.result c.loop-x-test.true c.x-item.is in
    (grind (arith, c.decreases, low), tt)

pub arms-loop-x-preserved : goal.arms-loop-x-preserved
arms-loop-x-preserved t c = next (sum_arms c.args.count.now c.args.last.now) c.args.xs.now c.loop-x.x-index c.loop-x.sum c.plus-sum.result c.x-item.result c.loop-x.invariant c.loop-x-test.true c.x-item.is (grind (arith, c.plus-sum.ensures, c.plus.ensures, c.block.ensures, c.where_nodes.ensures))

pub block-loop-x-init : goal.block-loop-x-init
block-loop-x-init t c = begun (sum_parts c.args.count.now) (omega arith) c.as_slice-x-items.result.now

pub block-part-requires : goal.block-part-requires
block-part-requires t c =
    let low = part_low c.as_slice-x-items.result.now c.loop-x.x-index c.x-item.result c.loop-x-test.true c.x-item.is in
    (grind (arith, c.decreases, low), tt)

pub block-loop-x-preserved : goal.block-loop-x-preserved
block-loop-x-preserved t c = next (sum_parts c.args.count.now) c.as_slice-x-items.result.now c.loop-x.x-index c.loop-x.sum c.plus-sum.result c.x-item.result c.loop-x.invariant c.loop-x-test.true c.x-item.is (grind (arith, c.plus-sum.ensures, c.part.ensures))

pub elsifs-block-requires-2 : goal.elsifs-block-requires-2
elsifs-block-requires-2 t c =
    let low = last_low c.args.last.now c.args.xs.now in
    (grind (arith, c.decreases, low), tt)

pub arms-default-requires : goal.arms-default-requires
arms-default-requires t c =
    let low = default_is_low c.args.last.now c.args.xs.now in
    (grind (arith, c.decreases, low), tt)
