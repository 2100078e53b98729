use Rattle.std.proofs.Common.{arith}
use Rattle.tu_effects.proofs.FirstPlace.{least_item, least_all}
use Rattle.tu_core.specs.Effects.{IsVarFormal}
use Rattle.tu_effects.proofs.formals.var_formals.Goals as goal

pub loop-f-preserved : goal.loop-f-preserved
loop-f-preserved c =
    least_item (IsVarFormal) c.args.fs.now c.loop-f.f-index c.f-item.result c.loop-f.least c.var_formal.result c.earlier-least.result
    (omega arith) c.f-item.is c.earlier-least.ensures c.loop-f.invariant c.var_formal.ensures

pub returns : goal.returns
returns c = least_all (IsVarFormal) c.args.fs.now c.loop-f.f-index c.loop-f.least (omega arith) c.loop-f.invariant
