use Rattle.std.proofs.Common.{arith}
use Rattle.tu_effects.proofs.FirstPlace.{least_item, least_all}
use Rattle.std.specs.Prelude.{◌++◌, map}
use Rattle.tu_core.specs.Acts.{ACollection, AVariable}
use Rattle.tu_core.specs.Effects.{ChangesFixed}
use Rattle.tu_effects.proofs.unlisted.scope_changes_fixed.Goals as goal

pub loop-act-preserved : goal.loop-act-preserved
loop-act-preserved c =
    least_item (ChangesFixed (map AVariable c.args.variables.now ++ map ACollection c.args.collections.now)) c.args.acts.now c.loop-act.act-index c.act-item.result c.loop-act.least c.changes_fixed.result c.earlier-least.result
    (omega arith) c.act-item.is c.earlier-least.ensures c.loop-act.invariant c.changes_fixed.ensures

pub returns : goal.returns
returns c = least_all (ChangesFixed (map AVariable c.args.variables.now ++ map ACollection c.args.collections.now)) c.args.acts.now c.loop-act.act-index c.loop-act.least (omega arith) c.loop-act.invariant
