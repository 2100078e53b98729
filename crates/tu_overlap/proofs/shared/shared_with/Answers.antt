use Rattle.std.proofs.Common.{◌≡◌, arith, drop, subst}
use Rattle.tu_effects.specs.Least.{IsLeast}
use Rattle.tu_overlap.proofs.Rows.{row_more, shared_one, shared_row, shared_with}
use Rattle.tu_overlap.proofs.shared.shared_with.Goals as goal

pub loop-place-preserved : goal.loop-place-preserved
loop-place-preserved c =
    row_more (shared_with c.args.is_var c.args.p.now) (shared_one c.args.is_var c.args.p.now) (shared_row c.args.is_var c.args.p.now) c.args.later.now c.loop-place.place c.index-later-place.result
    c.in_ok-same_as.field-0 c.loop-place.least c.earlier-least.result (omega (arith, c.loop-place-test.true)) c.loop-place.auto.place c.index-later-place.is c.earlier-least.ensures c.in_ok-same_as.ensures c.loop-place.invariant

pub returns : goal.returns
returns c =
    let none : c.loop-place.place ≡ 0 = omega (arith, c.loop-place-test.false) in
    subst (λ n. IsLeast (shared_with c.args.is_var c.args.p.now (drop n c.args.later.now)) c.loop-place.least) none c.loop-place.invariant
