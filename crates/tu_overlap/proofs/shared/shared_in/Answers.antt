use Rattle.std.proofs.Common.{◌≡◌, ◌+◌, ◌-◌, ap, arith, drop, subst, ◌∙◌}
use Rattle.std.proofs.lemmas.List.{take_rest}
use Rattle.tu_core_expressions.specs.ExpressionViews.{actuals_view}
use Rattle.tu_effects.specs.Least.{IsLeast}
use Rattle.tu_overlap.specs.Faults.{SharedBehind}
use Rattle.tu_overlap.proofs.Rows.{row_more, shared_all, shared_behind, shared_rows}
use Rattle.tu_overlap.proofs.shared.shared_in.Goals as goal

pub loop-place-preserved : goal.loop-place-preserved
loop-place-preserved c =
    let xs = c.args.actuals.now in
    let place = c.loop-place.place in
    let x = c.index-actuals-place.result in
    let whole : place - 1 + 1 ≡ place = omega (arith, c.loop-place-test.true) in
    let found = subst (λ ys. IsLeast (SharedBehind x (actuals_view ys)) c.in_ok-found.found) (take_rest xs (place - 1 + 1) ∙ ap (λ n. drop n xs) whole) c.in_ok-found.ensures in
    row_more shared_all shared_behind shared_rows xs place x c.in_ok-found.found c.loop-place.least c.earlier-least.result (omega (arith, c.loop-place-test.true)) c.loop-place.auto.place
    c.index-actuals-place.is c.earlier-least.ensures found c.loop-place.invariant

pub returns : goal.returns
returns c =
    let none : c.loop-place.place ≡ 0 = omega (arith, c.loop-place-test.false) in
    subst (λ n. IsLeast (shared_all (drop n c.args.actuals.now)) c.loop-place.least) none c.loop-place.invariant
