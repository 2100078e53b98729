use Rattle.std.proofs.Common.{ap, ◌∙◌, ◌++◌}
use Rattle.ir_form.specs.Values.{defined, defined_list, defined_region, defined_each}
use Rattle.ir_form.specs.Tests.{tally_of}
use Rattle.ir_form.proofs.Lists.{defined-If, defined-Case, defined-Loop, defined-Guard}
use Rattle.ir_form.proofs.Tallies.{tally-append, ops_more, arms_more}
use Rattle.ir_form.proofs.tally.+tally.Goals as goal

pub tally_arms-loop-arm-preserved : goal.tally_arms-loop-arm-preserved
tally_arms-loop-arm-preserved t c = let e = arms_more c.loop-arm.tally c.loop-arm.arm-index c.args.arms.now c.arm-item.result c.loop-arm-test.true in cc

pub tally_op-returns-in-If : goal.tally_op-returns-in-If
tally_op-returns-in-If t c =
    let a = ap defined c.in-If.is ∙ defined-If c.in-If.relation c.in-If.left c.in-If.right c.in-If.yes c.in-If.no c.in-If.to in
    let x = tally-append c.args.before (defined_region c.in-If.yes) (defined_region c.in-If.no ++ c.in-If.to) in
    let y = tally-append (tally_of c.args.before (defined_region c.in-If.yes)) (defined_region c.in-If.no) c.in-If.to in
    cc

pub tally_op-returns-in-Case : goal.tally_op-returns-in-Case
tally_op-returns-in-Case t c =
    let a = ap defined c.in-Case.is ∙ defined-Case c.in-Case.value c.in-Case.arms c.in-Case.others c.in-Case.to in
    let x = tally-append c.args.before (defined_each c.in-Case.arms) (defined_region c.in-Case.others ++ c.in-Case.to) in
    let y = tally-append (tally_of c.args.before (defined_each c.in-Case.arms)) (defined_region c.in-Case.others) c.in-Case.to in
    cc

pub tally_op-returns-in-Loop : goal.tally_op-returns-in-Loop
tally_op-returns-in-Loop t c =
    let a = ap defined c.in-Loop.is ∙ defined-Loop c.in-Loop.marked c.in-Loop.start c.in-Loop.body c.in-Loop.to in
    let x = tally-append c.args.before (defined_region c.in-Loop.body) c.in-Loop.to in
    cc

pub tally_op-returns-in-Guard : goal.tally_op-returns-in-Guard
tally_op-returns-in-Guard t c =
    let a = ap defined c.in-Guard.is ∙ defined-Guard c.in-Guard.mark c.in-Guard.body c.in-Guard.handler c.in-Guard.to in
    let x = tally-append c.args.before (defined_region c.in-Guard.body) (defined_region c.in-Guard.handler ++ c.in-Guard.to) in
    let y = tally-append (tally_of c.args.before (defined_region c.in-Guard.body)) (defined_region c.in-Guard.handler) c.in-Guard.to in
    cc

pub tally_region-loop-op-init : goal.tally_region-loop-op-init
tally_region-loop-op-init t c = let x = tally-append c.args.before c.args.region.now.parameters (defined_list c.args.region.now.ops) in cc

pub tally_region-loop-op-preserved : goal.tally_region-loop-op-preserved
tally_region-loop-op-preserved t c = let e = ops_more c.loop-op.tally c.loop-op.op-index c.as_slice-op-items.result.now c.op-item.result c.loop-op-test.true in cc
