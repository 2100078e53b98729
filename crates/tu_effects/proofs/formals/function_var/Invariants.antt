use Rattle.std.specs.Prelude.{take}
use Rattle.tu_core.specs.Effects.{Among}
use Rattle.tu_effects.specs.Least.{IsLeast}
use Rattle.tu_effects.specs.Faults.{HasVar}
use Rattle.tu_effects.proofs.formals.function_var.Given as goal

abbrev pub invariant-loop-r : goal.invariant-loop-r
invariant-loop-r l = IsLeast (Among HasVar (take l.r-index l.r-items)) l.least
