use Rattle.std.proofs.Common.{arith}
use Rattle.tu_room_parts.proofs.Low.{link_low, text_low, cut_low, set_low, scalar_low, selector_low, subscript_low, actual_low}
use Rattle.tu_room_changes.proofs.Grown.{begun, next, all}
use Rattle.tu_room_changes.proofs.Rows.{rows_of_links, rows_of_texts, rows_of_cuts, rows_of_sets, rows_of_scalars, rows_of_selectors, rows_of_subscripts, rows_of_actuals}
use Rattle.tu_room_changes.proofs.expressions.+expressions.Goals as goal

pub links-loop-x-init : goal.links-loop-x-init
links-loop-x-init t c = begun

pub links-link-requires : goal.links-link-requires
links-link-requires t c =
    let low = link_low c.args.xs.now c.loop-x.x-index c.x-item.result c.loop-x-test.true c.x-item.is in
    (grind (arith, c.decreases, low), tt)

pub links-loop-x-preserved : goal.links-loop-x-preserved
links-loop-x-preserved t c = next rows_of_links c.args.xs.now c.loop-x.x-index c.args.found.now c.loop-x.found c.link.new.found c.x-item.result c.loop-x.invariant c.loop-x-test.true c.x-item.is c.in_ok-link.ensures

pub links-returns : goal.links-returns
links-returns t c = all rows_of_links c.args.xs.now c.loop-x.x-index c.args.found.now c.loop-x.found c.loop-x.invariant c.loop-x-test.false

pub texts-loop-x-init : goal.texts-loop-x-init
texts-loop-x-init t c = begun

pub texts-text-requires : goal.texts-text-requires
texts-text-requires t c =
    let low = text_low c.args.xs.now c.loop-x.x-index c.x-item.result c.loop-x-test.true c.x-item.is in
    (grind (arith, c.decreases, low), tt)

pub texts-loop-x-preserved : goal.texts-loop-x-preserved
texts-loop-x-preserved t c = next rows_of_texts c.args.xs.now c.loop-x.x-index c.args.found.now c.loop-x.found c.text.new.found c.x-item.result c.loop-x.invariant c.loop-x-test.true c.x-item.is c.in_ok-text.ensures

pub texts-returns : goal.texts-returns
texts-returns t c = all rows_of_texts c.args.xs.now c.loop-x.x-index c.args.found.now c.loop-x.found c.loop-x.invariant c.loop-x-test.false

pub cuts-loop-x-init : goal.cuts-loop-x-init
cuts-loop-x-init t c = begun

pub cuts-cut-requires : goal.cuts-cut-requires
cuts-cut-requires t c =
    let low = cut_low c.args.xs.now c.loop-x.x-index c.x-item.result c.loop-x-test.true c.x-item.is in
    (grind (arith, c.decreases, low), tt)

pub cuts-loop-x-preserved : goal.cuts-loop-x-preserved
cuts-loop-x-preserved t c = next rows_of_cuts c.args.xs.now c.loop-x.x-index c.args.found.now c.loop-x.found c.cut.new.found c.x-item.result c.loop-x.invariant c.loop-x-test.true c.x-item.is c.in_ok-cut.ensures

pub cuts-returns : goal.cuts-returns
cuts-returns t c = all rows_of_cuts c.args.xs.now c.loop-x.x-index c.args.found.now c.loop-x.found c.loop-x.invariant c.loop-x-test.false

pub combinations-loop-x-init : goal.combinations-loop-x-init
combinations-loop-x-init t c = begun

pub combinations-set-requires : goal.combinations-set-requires
combinations-set-requires t c =
    let low = set_low c.args.xs.now c.loop-x.x-index c.x-item.result c.loop-x-test.true c.x-item.is in
    (grind (arith, c.decreases, low), tt)

pub combinations-loop-x-preserved : goal.combinations-loop-x-preserved
combinations-loop-x-preserved t c = next rows_of_sets c.args.xs.now c.loop-x.x-index c.args.found.now c.loop-x.found c.set.new.found c.x-item.result c.loop-x.invariant c.loop-x-test.true c.x-item.is c.in_ok-set.ensures

pub combinations-returns : goal.combinations-returns
combinations-returns t c = all rows_of_sets c.args.xs.now c.loop-x.x-index c.args.found.now c.loop-x.found c.loop-x.invariant c.loop-x-test.false

pub scalars-loop-x-init : goal.scalars-loop-x-init
scalars-loop-x-init t c = begun

pub scalars-scalar-requires : goal.scalars-scalar-requires
scalars-scalar-requires t c =
    let low = scalar_low c.args.xs.now c.loop-x.x-index c.x-item.result c.loop-x-test.true c.x-item.is in
    (grind (arith, c.decreases, low), tt)

pub scalars-loop-x-preserved : goal.scalars-loop-x-preserved
scalars-loop-x-preserved t c = next rows_of_scalars c.args.xs.now c.loop-x.x-index c.args.found.now c.loop-x.found c.scalar.new.found c.x-item.result c.loop-x.invariant c.loop-x-test.true c.x-item.is c.in_ok-scalar.ensures

pub scalars-returns : goal.scalars-returns
scalars-returns t c = all rows_of_scalars c.args.xs.now c.loop-x.x-index c.args.found.now c.loop-x.found c.loop-x.invariant c.loop-x-test.false

pub selectors-loop-x-init : goal.selectors-loop-x-init
selectors-loop-x-init t c = begun

pub selectors-selector-requires : goal.selectors-selector-requires
selectors-selector-requires t c =
    let low = selector_low c.args.xs.now c.loop-x.x-index c.x-item.result c.loop-x-test.true c.x-item.is in
    (grind (arith, c.decreases, low), tt)

pub selectors-loop-x-preserved : goal.selectors-loop-x-preserved
selectors-loop-x-preserved t c = next rows_of_selectors c.args.xs.now c.loop-x.x-index c.args.found.now c.loop-x.found c.selector.new.found c.x-item.result c.loop-x.invariant c.loop-x-test.true c.x-item.is c.in_ok-selector.ensures

pub selectors-returns : goal.selectors-returns
selectors-returns t c = all rows_of_selectors c.args.xs.now c.loop-x.x-index c.args.found.now c.loop-x.found c.loop-x.invariant c.loop-x-test.false

pub subscripts-loop-x-init : goal.subscripts-loop-x-init
subscripts-loop-x-init t c = begun

pub subscripts-scalar-requires : goal.subscripts-scalar-requires
subscripts-scalar-requires t c =
    let low = subscript_low c.args.xs.now c.loop-x.x-index c.x-item.result c.loop-x-test.true c.x-item.is in
    (grind (arith, c.decreases, low), tt)

pub subscripts-loop-x-preserved : goal.subscripts-loop-x-preserved
subscripts-loop-x-preserved t c = next rows_of_subscripts c.args.xs.now c.loop-x.x-index c.args.found.now c.loop-x.found c.scalar.new.found c.x-item.result c.loop-x.invariant c.loop-x-test.true c.x-item.is c.in_ok-scalar.ensures

pub subscripts-returns : goal.subscripts-returns
subscripts-returns t c = all rows_of_subscripts c.args.xs.now c.loop-x.x-index c.args.found.now c.loop-x.found c.loop-x.invariant c.loop-x-test.false

pub actuals-loop-x-init : goal.actuals-loop-x-init
actuals-loop-x-init t c = begun

pub actuals-actual-requires : goal.actuals-actual-requires
actuals-actual-requires t c =
    let low = actual_low c.args.xs.now c.loop-x.x-index c.x-item.result c.loop-x-test.true c.x-item.is in
    (grind (arith, c.decreases, low), tt)

pub actuals-loop-x-preserved : goal.actuals-loop-x-preserved
actuals-loop-x-preserved t c = next rows_of_actuals c.args.xs.now c.loop-x.x-index c.args.found.now c.loop-x.found c.actual.new.found c.x-item.result c.loop-x.invariant c.loop-x-test.true c.x-item.is c.in_ok-actual.ensures

pub actuals-returns : goal.actuals-returns
actuals-returns t c = all rows_of_actuals c.args.xs.now c.loop-x.x-index c.args.found.now c.loop-x.found c.loop-x.invariant c.loop-x-test.false
