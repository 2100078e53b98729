use Rattle.std.proofs.Common.{arith, subst}
use Rattle.tu_core.specs.Core.{Program}
use Rattle.tu_core.specs.Effects.{Among, FunctionVar}
use Rattle.tu_effects.specs.Least.{IsLeast}
use Rattle.tu_effects.specs.Faults.{HasVar}
use Rattle.tu_effects.proofs.FirstPlace.{least_item, least_all}
use Rattle.tu_effects.proofs.formals.function_var.Goals as goal

pub loop-r-preserved : goal.loop-r-preserved
loop-r-preserved c =
    least_item HasVar c.as_slice-r-items.result.now c.loop-r.r-index c.r-item.result c.loop-r.least c.var_of_function.result c.earlier-least.result
    (omega arith) c.r-item.is c.earlier-least.ensures c.loop-r.invariant c.var_of_function.ensures

pub returns : goal.returns
returns c =
    subst (λ (p : Program). IsLeast (FunctionVar p) c.loop-r.least) c.program.view_is
    (subst (λ rs. IsLeast (Among HasVar rs) c.loop-r.least) c.as_slice-r-items.ensures
    (least_all HasVar c.as_slice-r-items.result.now c.loop-r.r-index c.loop-r.least (omega arith) c.loop-r.invariant))
