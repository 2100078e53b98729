use Rattle.std.proofs.Common.{List, ap, ◌∙◌, arith}
use Rattle.ir_form.specs.Valid.{with}
use Rattle.ir_form.specs.Tests.{scope_of, fits}
use Rattle.std.proofs.lemmas.Bool.Decides.{nat_tests}
use Rattle.ir_form.specs.declared.op.Op.{Op}
use Rattle.ir_form.proofs.Lists.{fits-If, fits-Case, fits-Loop, fits-Guard}
use Rattle.ir_form.proofs.Fitting.{fits_more, given_same}
use Rattle.ir_form.proofs.validity.+fits.Goals as goal

pub op_fits-returns-then-region_fits : goal.op_fits-returns-then-region_fits
op_fits-returns-then-region_fits t c =
    let e = ap (fits c.args.unit.now c.args.routine.now (scope_of c.args.around.now)) c.in-If.is ∙ fits-If c.args.unit.now c.args.routine.now (scope_of c.args.around.now) c.in-If.relation c.in-If.left c.in-If.right c.in-If.yes c.in-If.no c.in-If.to in
    grind (arith, e)

pub op_fits-returns-else-region_fits : goal.op_fits-returns-else-region_fits
op_fits-returns-else-region_fits t c =
    let e = ap (fits c.args.unit.now c.args.routine.now (scope_of c.args.around.now)) c.in-If.is ∙ fits-If c.args.unit.now c.args.routine.now (scope_of c.args.around.now) c.in-If.relation c.in-If.left c.in-If.right c.in-If.yes c.in-If.no c.in-If.to in
    grind (arith, e)

pub op_fits-returns-then-arms_fit : goal.op_fits-returns-then-arms_fit
op_fits-returns-then-arms_fit t c =
    let e = ap (fits c.args.unit.now c.args.routine.now (scope_of c.args.around.now)) c.in-Case.is ∙ fits-Case c.args.unit.now c.args.routine.now (scope_of c.args.around.now) c.in-Case.value c.in-Case.arms c.in-Case.others c.in-Case.to in
    grind (arith, e)

pub op_fits-returns-else-arms_fit : goal.op_fits-returns-else-arms_fit
op_fits-returns-else-arms_fit t c =
    let e = ap (fits c.args.unit.now c.args.routine.now (scope_of c.args.around.now)) c.in-Case.is ∙ fits-Case c.args.unit.now c.args.routine.now (scope_of c.args.around.now) c.in-Case.value c.in-Case.arms c.in-Case.others c.in-Case.to in
    grind (arith, e)

pub region_fits-loop-i-preserved : goal.region_fits-loop-i-preserved
region_fits-loop-i-preserved t c =
    let ops : List Op = c.as_slice-ops.result.now in
    let e = fits_more c.args.unit.now c.args.routine.now (with (scope_of c.args.around.now) c.args.region.now.parameters) ops c.loop-i.i c.index-ops-i.result c.loop-i-test.true in
    let g = given_same ops c.loop-i.i c.index-ops-i.result c.loop-i-test.true in
    grind (arith, nat_tests, e, g)

pub op_fits-returns-in-Loop : goal.op_fits-returns-in-Loop
op_fits-returns-in-Loop t c =
    let e = ap (fits c.args.unit.now c.args.routine.now (scope_of c.args.around.now)) c.in-Loop.is ∙ fits-Loop c.args.unit.now c.args.routine.now (scope_of c.args.around.now) c.in-Loop.marked c.in-Loop.start c.in-Loop.body c.in-Loop.to in
    grind (arith, e)

pub op_fits-returns-then-guarded_fits : goal.op_fits-returns-then-guarded_fits
op_fits-returns-then-guarded_fits t c =
    let e = ap (fits c.args.unit.now c.args.routine.now (scope_of c.args.around.now)) c.in-Guard.is ∙ fits-Guard c.args.unit.now c.args.routine.now (scope_of c.args.around.now) c.in-Guard.mark c.in-Guard.body c.in-Guard.handler c.in-Guard.to in
    grind (arith, e)

pub op_fits-returns-else-guarded_fits : goal.op_fits-returns-else-guarded_fits
op_fits-returns-else-guarded_fits t c =
    let e = ap (fits c.args.unit.now c.args.routine.now (scope_of c.args.around.now)) c.in-Guard.is ∙ fits-Guard c.args.unit.now c.args.routine.now (scope_of c.args.around.now) c.in-Guard.mark c.in-Guard.body c.in-Guard.handler c.in-Guard.to in
    grind (arith, e)
