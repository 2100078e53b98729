use Rattle.std.proofs.Common.{arith, ap, length}
use Rattle.ir_form.specs.Values.{marks_list, marks_each}
use Rattle.ir_form.proofs.GuardSums.{guards-If, guards-Case, guards-Loop, guards-Guard}
use Rattle.ir_form.proofs.guards.+guards.Goals as goal

pub guards_in_op-returns-in-If : goal.guards_in_op-returns-in-If
guards_in_op-returns-in-If t c =
    let e = guards-If c.args.op.now c.in-If.relation c.in-If.left c.in-If.right c.in-If.yes c.in-If.no c.in-If.to c.in-If.is in
    let a = ap (λ ops. length (marks_list ops)) c.as_slice.ensures in
    let b = ap (λ ops. length (marks_list ops)) c.as_slice-in-If.ensures in
    omega arith

pub guards_in_op-returns-in-Case : goal.guards_in_op-returns-in-Case
guards_in_op-returns-in-Case t c =
    let e = guards-Case c.args.op.now c.in-Case.value c.in-Case.arms c.in-Case.others c.in-Case.to c.in-Case.is in
    let a = ap (λ arms. length (marks_each arms)) c.as_slice-in-Case.ensures in
    let b = ap (λ ops. length (marks_list ops)) c.as_slice-in-Case-2.ensures in
    omega arith

pub guards_in_op-returns-in-Loop : goal.guards_in_op-returns-in-Loop
guards_in_op-returns-in-Loop t c =
    let e = guards-Loop c.args.op.now c.in-Loop.marked c.in-Loop.start c.in-Loop.body c.in-Loop.to c.in-Loop.is in
    let a = ap (λ ops. length (marks_list ops)) c.as_slice-in-Loop.ensures in
    omega arith

pub guards_in_op-returns-in-Guard : goal.guards_in_op-returns-in-Guard
guards_in_op-returns-in-Guard t c =
    let e = guards-Guard c.args.op.now c.in-Guard.mark c.in-Guard.body c.in-Guard.handler c.in-Guard.to c.in-Guard.is in
    let a = ap (λ ops. length (marks_list ops)) c.as_slice-in-Guard.ensures in
    let b = ap (λ ops. length (marks_list ops)) c.as_slice-in-Guard-2.ensures in
    omega arith
