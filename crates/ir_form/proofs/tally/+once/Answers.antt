use Rattle.std.proofs.Common.{arith}
use Rattle.ir_form.specs.Values.{values_of}
use Rattle.ir_form.specs.Tests.{is_once}
use Rattle.ir_form.proofs.Onces.{all-If, all-Case, all-Loop, all-Guard}
use Rattle.ir_form.proofs.tally.+once.Goals as goal

pub once_op-returns-then-once_region-2 : goal.once_op-returns-then-once_region-2
once_op-returns-then-once_region-2 t c =
    let e = all-If (is_once (values_of c.args.routine.now)) c.args.op.now c.in-If.relation c.in-If.left c.in-If.right c.in-If.yes c.in-If.no c.in-If.to c.in-If.is in
    grind (arith, e)

pub once_op-returns-else-once_region-2 : goal.once_op-returns-else-once_region-2
once_op-returns-else-once_region-2 t c =
    let e = all-If (is_once (values_of c.args.routine.now)) c.args.op.now c.in-If.relation c.in-If.left c.in-If.right c.in-If.yes c.in-If.no c.in-If.to c.in-If.is in
    grind (arith, e)

pub once_op-returns-then-once_region-3 : goal.once_op-returns-then-once_region-3
once_op-returns-then-once_region-3 t c =
    let e = all-Case (is_once (values_of c.args.routine.now)) c.args.op.now c.in-Case.value c.in-Case.arms c.in-Case.others c.in-Case.to c.in-Case.is in
    grind (arith, e)

pub once_op-returns-else-once_region-3 : goal.once_op-returns-else-once_region-3
once_op-returns-else-once_region-3 t c =
    let e = all-Case (is_once (values_of c.args.routine.now)) c.args.op.now c.in-Case.value c.in-Case.arms c.in-Case.others c.in-Case.to c.in-Case.is in
    grind (arith, e)

pub once_op-returns-then-once_region-4 : goal.once_op-returns-then-once_region-4
once_op-returns-then-once_region-4 t c =
    let e = all-Loop (is_once (values_of c.args.routine.now)) c.args.op.now c.in-Loop.marked c.in-Loop.start c.in-Loop.body c.in-Loop.to c.in-Loop.is in
    grind (arith, e)

pub once_op-returns-else-once_region-4 : goal.once_op-returns-else-once_region-4
once_op-returns-else-once_region-4 t c =
    let e = all-Loop (is_once (values_of c.args.routine.now)) c.args.op.now c.in-Loop.marked c.in-Loop.start c.in-Loop.body c.in-Loop.to c.in-Loop.is in
    grind (arith, e)

pub once_op-returns-then-once_region-6 : goal.once_op-returns-then-once_region-6
once_op-returns-then-once_region-6 t c =
    let e = all-Guard (is_once (values_of c.args.routine.now)) c.args.op.now c.in-Guard.mark c.in-Guard.body c.in-Guard.handler c.in-Guard.to c.in-Guard.is in
    grind (arith, e)

pub once_op-returns-else-once_region-6 : goal.once_op-returns-else-once_region-6
once_op-returns-else-once_region-6 t c =
    let e = all-Guard (is_once (values_of c.args.routine.now)) c.args.op.now c.in-Guard.mark c.in-Guard.body c.in-Guard.handler c.in-Guard.to c.in-Guard.is in
    grind (arith, e)
