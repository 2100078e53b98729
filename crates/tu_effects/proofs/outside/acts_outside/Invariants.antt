use Rattle.std.specs.Prelude.{take}
use Rattle.tu_core.specs.Effects.{Among}
use Rattle.tu_effects.specs.Least.{IsLeast}
use Rattle.tu_effects.specs.Faults.{DoesOutside}
use Rattle.tu_effects.proofs.outside.acts_outside.Given as goal

abbrev pub invariant-loop-act : goal.invariant-loop-act
invariant-loop-act l = IsLeast (Among (DoesOutside l.deed l.program) (take l.act-index l.acts)) l.least
