use Rattle.std.proofs.Common.{arith}
use Rattle.tu_acts.specs.ActViews.{subject_view}
use Rattle.tu_effects.proofs.FirstPlace.{least_all, least_item}
use Rattle.tu_overlap.specs.Faults.{IsBroken}
use Rattle.tu_overlap.proofs.bound.scope_breaks.Goals as goal

pub loop-act-preserved : goal.loop-act-preserved
loop-act-preserved c =
    least_item (IsBroken c.args.is_var c.args.program.now (subject_view c.args.x)) c.args.scope.now c.loop-act.act-index c.act-item.result c.loop-act.least c.act_breaks.result c.earlier-least.result
    (omega arith) c.act-item.is c.earlier-least.ensures c.loop-act.invariant c.act_breaks.ensures

pub returns : goal.returns
returns c = least_all (IsBroken c.args.is_var c.args.program.now (subject_view c.args.x)) c.args.scope.now c.loop-act.act-index c.loop-act.least (omega arith) c.loop-act.invariant
