use Rattle.std.proofs.Common.{◌≡◌, true, sym, subst}
use Rattle.tu_core.specs.Acts.{routine_acts}
use Rattle.tu_core.specs.Effects.{Among, is_function}
use Rattle.tu_effects.specs.Faults.{DoesOutside}
use Rattle.tu_effects.specs.Least.{IsLeast}
use Rattle.tu_effects.proofs.FirstPlace.{least_under}
use Rattle.tu_effects.proofs.outside.routine_outside.Goals as goal

pub returns-then-is_function : goal.returns-then-is_function
returns-then-is_function c =
    let does = DoesOutside c.args.deed c.args.program.now in
    least_under (is_function c.args.r.now ≡ true) (Among does (routine_acts c.args.r.now)) c.acts_outside.result (sym c.if-is_function.ensures)
    (subst (λ acts. IsLeast (Among does acts) c.acts_outside.result) c.requires.acts c.acts_outside.ensures)
