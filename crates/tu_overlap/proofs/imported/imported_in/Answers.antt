use Rattle.std.proofs.Common.{◌≡◌, arith, drop, subst, ◌∙◌}
use Rattle.tu_effects.specs.Least.{IsLeast}
use Rattle.tu_overlap.proofs.Rows.{imported_all, imported_first, imported_row, row_more}
use Rattle.tu_overlap.proofs.imported.imported_in.Goals as goal

pub loop-place-preserved : goal.loop-place-preserved
loop-place-preserved c =
    let program = c.args.program.now in
    let callee = c.args.callee in record {
      length = c.in_ok-found.ensures.length ∙ c.loop-place.invariant.length;
      least = row_more (imported_all program callee) (imported_first program callee) (imported_row program callee) c.args.actuals.now c.loop-place.place c.index-actuals-place.result
          c.in_ok-found.found c.loop-place.least c.earlier-least.result (omega (arith, c.loop-place-test.true)) c.loop-place.auto.place c.index-actuals-place.is c.earlier-least.ensures c.in_ok-found.ensures.found c.loop-place.invariant.least;
    }

pub returns-clause-found : goal.returns-clause-found
returns-clause-found c =
    let none : c.loop-place.place ≡ 0 = omega (arith, c.loop-place-test.false) in
    subst (λ n. IsLeast (imported_all c.args.program.now c.args.callee (drop n c.args.actuals.now)) c.loop-place.least) none c.loop-place.invariant.least
