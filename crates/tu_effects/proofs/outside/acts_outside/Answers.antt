use Rattle.std.proofs.Common.{arith}
use Rattle.tu_effects.proofs.FirstPlace.{least_item, least_all}
use Rattle.tu_effects.specs.Faults.{DoesOutside}
use Rattle.tu_effects.proofs.outside.acts_outside.Goals as goal

pub loop-act-preserved : goal.loop-act-preserved
loop-act-preserved c =
    least_item (DoesOutside c.args.deed c.args.program.now) c.args.acts.now c.loop-act.act-index c.act-item.result c.loop-act.least c.act_outside.result c.earlier-least.result
    (omega arith) c.act-item.is c.earlier-least.ensures c.loop-act.invariant c.act_outside.ensures

pub returns : goal.returns
returns c = least_all (DoesOutside c.args.deed c.args.program.now) c.args.acts.now c.loop-act.act-index c.loop-act.least (omega arith) c.loop-act.invariant
