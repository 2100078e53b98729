use Rattle.std.proofs.Common.{arith}
use Rattle.tu_flatten_parts.proofs.Lists.{turned}
use Rattle.tu_flatten_parts.proofs.Steps.{◌▸◌, left, right}
use Rattle.tu_flatten.proofs.Arms.{no_arms, arm_more, all_arms}
use Rattle.tu_flatten.proofs.Low.{elsif_low, arm_low, last_arm_low}
use Rattle.tu_flatten.proofs.blocks.+block.Goals as goal

pub write_if-returns : goal.write_if-returns
write_if-returns t c =
    right (left (c.in_ok-word.ensures ▸ c.in_ok-write_expr.ensures ▸ c.in_ok-word-2.ensures ▸ c.in_ok-write_block.ensures
    ▸ turned c.loop-x.invariant c.loop-x-test.false c.as_slice-x-items.ensures ▸ c.in_ok-write_else.ensures ▸ c.in_ok-end.ensures))

pub write_for-returns : goal.write_for-returns
write_for-returns t c =
    right (right (right (left (c.in_ok-word.ensures ▸ c.in_ok-flag.ensures ▸ c.in_ok-name.ensures ▸ c.in_ok-word-2.ensures ▸ c.in_ok-write_range.ensures
    ▸ c.in_ok-write_any_invariant.ensures ▸ c.in_ok-write_block.ensures ▸ c.in_ok-end.ensures))))

pub write_case-loop-x-init : goal.write_case-loop-x-init
write_case-loop-x-init t c = no_arms

pub write_case-loop-x-preserved : goal.write_case-loop-x-preserved
write_case-loop-x-preserved t c = arm_more c.loop-x.invariant c.loop-x-test.true c.x-item.is c.in_ok-write_arm.ensures

pub write_case-returns : goal.write_case-returns
write_case-returns t c =
    right (right (right (right (left (c.in_ok-word.ensures ▸ c.in_ok-write_expr.ensures ▸ c.in_ok-word-2.ensures
    ▸ all_arms c.args.otherwise.now c.loop-x.invariant c.loop-x-test.false c.as_slice-x-items.ensures c.in_ok-write_last_arm.ensures ▸ c.in_ok-end.ensures)))))

pub write_if-write_elsif-requires : goal.write_if-write_elsif-requires
write_if-write_elsif-requires t c =
    let low = elsif_low c.x-item.result c.as_slice-x-items.result.now c.args.elsifs.now c.loop-x.x-index c.loop-x-test.true c.x-item.is c.as_slice-x-items.ensures in
    (grind (arith, c.decreases, low), tt)

pub write_case-write_arm-requires : goal.write_case-write_arm-requires
write_case-write_arm-requires t c =
    let low = arm_low c.x-item.result c.as_slice-x-items.result.now c.args.arms.now c.args.otherwise.now c.loop-x.x-index c.loop-x-test.true c.x-item.is c.as_slice-x-items.ensures in
    (grind (arith, c.decreases, low), tt)

pub write_case-write_last_arm-requires : goal.write_case-write_last_arm-requires
write_case-write_last_arm-requires t c =
    let low = last_arm_low c.args.arms.now c.args.otherwise.now in
    (grind (arith, c.decreases, low), tt)
