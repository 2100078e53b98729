use Rattle.std.proofs.Common.{arith, subst}
use Rattle.tu_core.specs.Core.{Program}
use Rattle.tu_core.specs.Effects.{Among}
use Rattle.tu_effects.specs.Faults.{FunctionDoes}
use Rattle.tu_effects.specs.Least.{IsLeast}
use Rattle.tu_effects.proofs.Deeds.{deed_found}
use Rattle.tu_effects.proofs.FirstPlace.{least_item, least_all}
use Rattle.tu_effects.proofs.outside.function_does.Goals as goal

pub loop-place-preserved : goal.loop-place-preserved
loop-place-preserved c =
    least_item (FunctionDoes c.args.deed c.args.program.now) c.as_slice-routines.result.now c.loop-place.place c.index-routines-place.result c.loop-place.least c.routine_outside.result c.earlier-least.result
    (omega arith) c.index-routines-place.is c.earlier-least.ensures c.loop-place.invariant c.routine_outside.ensures

pub returns : goal.returns
returns c =
    let does = FunctionDoes c.args.deed in
    let all = least_all (does c.args.program.now) c.as_slice-routines.result.now c.loop-place.place c.loop-place.least (omega arith) c.loop-place.invariant in
    deed_found c.args.deed c.args.program.now c.loop-place.least
    (subst (λ (p : Program). IsLeast (Among (does c.args.program.now) p.routines) c.loop-place.least) c.program.view_is
    (subst (λ rs. IsLeast (Among (does c.args.program.now) rs) c.loop-place.least) c.as_slice-routines.ensures all))
