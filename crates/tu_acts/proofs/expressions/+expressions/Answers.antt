use Rattle.std.proofs.Common.{◌-◌, ap, arith}
use Rattle.tu_core_expressions.specs.ExpressionHeights.{height_of_scalar, height_of_set}
use Rattle.tu_core_expressions.specs.declared.path.Subscript.{Subscript}
use Rattle.tu_core_expressions.specs.declared.set.SetLink.{SetLink}
use Rattle.tu_acts.proofs.Low.{text_low, set_low, scalar_low, subscript_low, link_low, cut_low, selector_low, actual_low}
use Rattle.tu_acts.proofs.expressions.+expressions.Goals as goal

pub links-link-requires : goal.links-link-requires
links-link-requires t c =
    let low = link_low c.args.xs.now (c.loop-place.place - 1) c.index-xs-place.result (omega (arith, c.loop-place-test.true, c.loop-place.auto.place)) c.index-xs-place.is in
    (grind (arith, c.decreases, low), tt)

pub texts-text-requires : goal.texts-text-requires
texts-text-requires t c =
    let low = text_low c.args.xs.now (c.loop-place.place - 1) c.index-xs-place.result (omega (arith, c.loop-place-test.true, c.loop-place.auto.place)) c.index-xs-place.is in
    (grind (arith, c.decreases, low), tt)

pub cuts-cut-requires : goal.cuts-cut-requires
cuts-cut-requires t c =
    let low = cut_low c.args.xs.now (c.loop-place.place - 1) c.index-xs-place.result (omega (arith, c.loop-place-test.true, c.loop-place.auto.place)) c.index-xs-place.is in
    (grind (arith, c.decreases, low), tt)

pub scalars-scalar-requires : goal.scalars-scalar-requires
scalars-scalar-requires t c =
    let low = scalar_low c.args.xs.now (c.loop-place.place - 1) c.index-xs-place.result (omega (arith, c.loop-place-test.true, c.loop-place.auto.place)) c.index-xs-place.is in
    (grind (arith, c.decreases, low), tt)

pub selectors-selector-requires : goal.selectors-selector-requires
selectors-selector-requires t c =
    let low = selector_low c.args.xs.now (c.loop-place.place - 1) c.index-xs-place.result (omega (arith, c.loop-place-test.true, c.loop-place.auto.place)) c.index-xs-place.is in
    (grind (arith, c.decreases, low), tt)

pub actuals-actual-requires : goal.actuals-actual-requires
actuals-actual-requires t c =
    let low = actual_low c.args.xs.now (c.loop-place.place - 1) c.index-xs-place.result (omega (arith, c.loop-place-test.true, c.loop-place.auto.place)) c.index-xs-place.is in
    (grind (arith, c.decreases, low), tt)

pub combinations-set-requires : goal.combinations-set-requires
combinations-set-requires t c =
    let low = set_low c.args.xs.now (c.loop-place.place - 1) c.index-xs-place.result (omega (arith, c.loop-place-test.true, c.loop-place.auto.place)) c.index-xs-place.is in
    let same = ap (λ (x : SetLink). height_of_set x.set) c.index-xs-place.is in
    (grind (arith, c.decreases, low, same), tt)

pub subscripts-scalar-requires : goal.subscripts-scalar-requires
subscripts-scalar-requires t c =
    let low = subscript_low c.args.xs.now (c.loop-place.place - 1) c.index-xs-place.result (omega (arith, c.loop-place-test.true, c.loop-place.auto.place)) c.index-xs-place.is in
    let same = ap (λ (x : Subscript). height_of_scalar x.index) c.index-xs-place.is in
    (grind (arith, c.decreases, low, same), tt)
