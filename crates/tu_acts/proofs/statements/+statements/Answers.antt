use Rattle.std.proofs.Common.{◌≤◌, ◌-◌, length, drop, ap, arith, length-append}
use Rattle.tu_core_types.specs.StatementHeights.{height_of_block}
use Rattle.tu_core_types.specs.declared.statement.Arm.{Arm}
use Rattle.tu_core_types.specs.declared.statement.Elsif.{Elsif}
use Rattle.tu_acts.proofs.StatementLow.{arm_low, elsif_low, last_low, default_low, part_low}
use Rattle.tu_acts.proofs.StatementRows.{all_parts}
use Rattle.tu_acts.proofs.statements.+statements.Goals as goal

pub elsifs-block-requires : goal.elsifs-block-requires
elsifs-block-requires t c =
    let low = last_low c.args.last.now c.args.xs.now in
    (grind (arith, c.decreases, low), tt)

pub elsifs-block-requires-in-loop-place : goal.elsifs-block-requires-in-loop-place
elsifs-block-requires-in-loop-place t c =
    let low = elsif_low c.args.last.now c.args.xs.now (c.loop-place.place - 1) c.index-xs-place.result (omega (arith, c.loop-place-test.true, c.loop-place.auto.place)) c.index-xs-place.is in
    let same = ap (λ (x : Elsif). height_of_block x.block) c.index-xs-place.is in
    (grind (arith, c.decreases, low, same), tt)

pub arms-default-requires : goal.arms-default-requires
arms-default-requires t c =
    let low = default_low c.args.last.now c.args.xs.now in
    (grind (arith, c.decreases, low), tt)

pub arms-block-requires : goal.arms-block-requires
arms-block-requires t c =
    let low = arm_low c.args.last.now c.args.xs.now (c.loop-place.place - 1) c.index-xs-place.result (omega (arith, c.loop-place-test.true, c.loop-place.auto.place)) c.index-xs-place.is in
    let same = ap (λ (x : Arm). height_of_block x.block) c.index-xs-place.is in
    (grind (arith, c.decreases, low, same), tt)

pub block-part-requires : goal.block-part-requires
block-part-requires t c =
    let parts = c.as_slice-parts.result.now in
    let low = part_low parts (c.loop-place.place - 1) c.index-parts-place.result (omega (arith, c.loop-place-test.true, c.loop-place.auto.place)) c.index-parts-place.is in
    let long : c.len-behind.result ≤ length c.loop-place.acts = omega (arith, c.len-behind.ensures, ap length c.loop-place.invariant, length-append (all_parts (drop c.loop-place.place parts)) c.args.acts.now) in
    (grind (arith, c.decreases, low), long)
