use Rattle.std.proofs.Common.{arith}
use Rattle.tu_room_parts.proofs.Sums.{begun, next, all}
use Rattle.tu_room_parts.proofs.Low.{text_low, set_low, scalar_low, subscript_low, link_low, cut_low, selector_low, actual_low}
use Rattle.tu_room_parts.proofs.Rows.{sum_actuals, sum_sets, sum_cuts, sum_links, sum_scalars, sum_selectors, sum_subscripts, sum_texts}
use Rattle.tu_room_parts.proofs.expressions.+expressions.Goals as goal

pub actuals-loop-x-init : goal.actuals-loop-x-init
actuals-loop-x-init t c = begun (sum_actuals c.args.count.now) (omega arith) c.args.xs.now

pub actuals-actual-requires : goal.actuals-actual-requires
actuals-actual-requires t c =
    let low = actual_low c.args.xs.now c.loop-x.x-index c.x-item.result c.loop-x-test.true c.x-item.is in
    (grind (arith, c.decreases, low), tt)

pub actuals-loop-x-preserved : goal.actuals-loop-x-preserved
actuals-loop-x-preserved t c = next (sum_actuals c.args.count.now) c.args.xs.now c.loop-x.x-index c.loop-x.sum c.plus-sum.result c.x-item.result c.loop-x.invariant c.loop-x-test.true c.x-item.is (grind (arith, c.plus-sum.ensures, c.actual.ensures))

pub actuals-returns : goal.actuals-returns
actuals-returns t c = all (sum_actuals c.args.count.now) c.args.xs.now c.loop-x.x-index c.loop-x.sum c.loop-x.invariant c.loop-x-test.false

pub combinations-loop-x-init : goal.combinations-loop-x-init
combinations-loop-x-init t c = begun (sum_sets c.args.count.now) (omega arith) c.args.xs.now

pub combinations-set-requires : goal.combinations-set-requires
combinations-set-requires t c =
    let low = set_low c.args.xs.now c.loop-x.x-index c.x-item.result c.loop-x-test.true c.x-item.is in
    (grind (arith, c.decreases, low), tt)

pub combinations-loop-x-preserved : goal.combinations-loop-x-preserved
combinations-loop-x-preserved t c = next (sum_sets c.args.count.now) c.args.xs.now c.loop-x.x-index c.loop-x.sum c.plus-sum.result c.x-item.result c.loop-x.invariant c.loop-x-test.true c.x-item.is (grind (arith, c.plus-sum.ensures, c.plus.ensures))

pub combinations-returns : goal.combinations-returns
combinations-returns t c = all (sum_sets c.args.count.now) c.args.xs.now c.loop-x.x-index c.loop-x.sum c.loop-x.invariant c.loop-x-test.false

pub cuts-loop-x-init : goal.cuts-loop-x-init
cuts-loop-x-init t c = begun (sum_cuts c.args.count.now) (omega arith) c.args.xs.now

pub cuts-cut-requires : goal.cuts-cut-requires
cuts-cut-requires t c =
    let low = cut_low c.args.xs.now c.loop-x.x-index c.x-item.result c.loop-x-test.true c.x-item.is in
    (grind (arith, c.decreases, low), tt)

pub cuts-loop-x-preserved : goal.cuts-loop-x-preserved
cuts-loop-x-preserved t c = next (sum_cuts c.args.count.now) c.args.xs.now c.loop-x.x-index c.loop-x.sum c.plus-sum.result c.x-item.result c.loop-x.invariant c.loop-x-test.true c.x-item.is (grind (arith, c.plus-sum.ensures, c.cut.ensures))

pub cuts-returns : goal.cuts-returns
cuts-returns t c = all (sum_cuts c.args.count.now) c.args.xs.now c.loop-x.x-index c.loop-x.sum c.loop-x.invariant c.loop-x-test.false

pub links-loop-x-init : goal.links-loop-x-init
links-loop-x-init t c = begun (sum_links c.args.count.now) (omega arith) c.args.xs.now

pub links-link-requires : goal.links-link-requires
links-link-requires t c =
    let low = link_low c.args.xs.now c.loop-x.x-index c.x-item.result c.loop-x-test.true c.x-item.is in
    (grind (arith, c.decreases, low), tt)

pub links-loop-x-preserved : goal.links-loop-x-preserved
links-loop-x-preserved t c = next (sum_links c.args.count.now) c.args.xs.now c.loop-x.x-index c.loop-x.sum c.plus-sum.result c.x-item.result c.loop-x.invariant c.loop-x-test.true c.x-item.is (grind (arith, c.plus-sum.ensures, c.link.ensures))

pub links-returns : goal.links-returns
links-returns t c = all (sum_links c.args.count.now) c.args.xs.now c.loop-x.x-index c.loop-x.sum c.loop-x.invariant c.loop-x-test.false

pub scalars-loop-x-init : goal.scalars-loop-x-init
scalars-loop-x-init t c = begun (sum_scalars c.args.count.now) (omega arith) c.args.xs.now

pub scalars-scalar-requires : goal.scalars-scalar-requires
scalars-scalar-requires t c =
    let low = scalar_low c.args.xs.now c.loop-x.x-index c.x-item.result c.loop-x-test.true c.x-item.is in
    (grind (arith, c.decreases, low), tt)

pub scalars-loop-x-preserved : goal.scalars-loop-x-preserved
scalars-loop-x-preserved t c = next (sum_scalars c.args.count.now) c.args.xs.now c.loop-x.x-index c.loop-x.sum c.plus-sum.result c.x-item.result c.loop-x.invariant c.loop-x-test.true c.x-item.is (grind (arith, c.plus-sum.ensures, c.scalar.ensures))

pub scalars-returns : goal.scalars-returns
scalars-returns t c = all (sum_scalars c.args.count.now) c.args.xs.now c.loop-x.x-index c.loop-x.sum c.loop-x.invariant c.loop-x-test.false

pub selectors-loop-x-init : goal.selectors-loop-x-init
selectors-loop-x-init t c = begun (sum_selectors c.args.count.now) (omega arith) c.args.xs.now

pub selectors-selector-requires : goal.selectors-selector-requires
selectors-selector-requires t c =
    let low = selector_low c.args.xs.now c.loop-x.x-index c.x-item.result c.loop-x-test.true c.x-item.is in
    (grind (arith, c.decreases, low), tt)

pub selectors-loop-x-preserved : goal.selectors-loop-x-preserved
selectors-loop-x-preserved t c = next (sum_selectors c.args.count.now) c.args.xs.now c.loop-x.x-index c.loop-x.sum c.plus-sum.result c.x-item.result c.loop-x.invariant c.loop-x-test.true c.x-item.is (grind (arith, c.plus-sum.ensures, c.selector.ensures))

pub selectors-returns : goal.selectors-returns
selectors-returns t c = all (sum_selectors c.args.count.now) c.args.xs.now c.loop-x.x-index c.loop-x.sum c.loop-x.invariant c.loop-x-test.false

pub subscripts-loop-x-init : goal.subscripts-loop-x-init
subscripts-loop-x-init t c = begun (sum_subscripts c.args.count.now) (omega arith) c.args.xs.now

pub subscripts-scalar-requires : goal.subscripts-scalar-requires
subscripts-scalar-requires t c =
    let low = subscript_low c.args.xs.now c.loop-x.x-index c.x-item.result c.loop-x-test.true c.x-item.is in
    (grind (arith, c.decreases, low), tt)

pub subscripts-loop-x-preserved : goal.subscripts-loop-x-preserved
subscripts-loop-x-preserved t c = next (sum_subscripts c.args.count.now) c.args.xs.now c.loop-x.x-index c.loop-x.sum c.plus-sum.result c.x-item.result c.loop-x.invariant c.loop-x-test.true c.x-item.is (grind (arith, c.plus-sum.ensures, c.scalar.ensures))

pub subscripts-returns : goal.subscripts-returns
subscripts-returns t c = all (sum_subscripts c.args.count.now) c.args.xs.now c.loop-x.x-index c.loop-x.sum c.loop-x.invariant c.loop-x-test.false

pub texts-loop-x-init : goal.texts-loop-x-init
texts-loop-x-init t c = begun (sum_texts c.args.count.now) (omega arith) c.args.xs.now

pub texts-text-requires : goal.texts-text-requires
texts-text-requires t c =
    let low = text_low c.args.xs.now c.loop-x.x-index c.x-item.result c.loop-x-test.true c.x-item.is in
    (grind (arith, c.decreases, low), tt)

pub texts-loop-x-preserved : goal.texts-loop-x-preserved
texts-loop-x-preserved t c = next (sum_texts c.args.count.now) c.args.xs.now c.loop-x.x-index c.loop-x.sum c.plus-sum.result c.x-item.result c.loop-x.invariant c.loop-x-test.true c.x-item.is (grind (arith, c.plus-sum.ensures, c.plus.ensures))

pub texts-returns : goal.texts-returns
texts-returns t c = all (sum_texts c.args.count.now) c.args.xs.now c.loop-x.x-index c.loop-x.sum c.loop-x.invariant c.loop-x-test.false
