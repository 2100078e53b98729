use Rattle.std.specs.Prelude.{take}
use Rattle.tu_core.specs.Effects.{Among}
use Rattle.tu_acts.specs.ActViews.{subject_view}
use Rattle.tu_effects.specs.Least.{IsLeast}
use Rattle.tu_overlap.specs.Faults.{IsBroken}
use Rattle.tu_overlap.proofs.bound.scope_breaks.Given as goal

abbrev pub invariant-loop-act : goal.invariant-loop-act
invariant-loop-act l = IsLeast (Among (IsBroken l.is_var l.program (subject_view l.x)) (take l.act-index l.scope)) l.least
