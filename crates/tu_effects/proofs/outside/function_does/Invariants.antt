use Rattle.std.specs.Prelude.{take}
use Rattle.tu_core.specs.Effects.{Among}
use Rattle.tu_effects.specs.Least.{IsLeast}
use Rattle.tu_effects.specs.Faults.{FunctionDoes}
use Rattle.tu_effects.proofs.outside.function_does.Given as goal

abbrev pub invariant-loop-place : goal.invariant-loop-place
invariant-loop-place l = IsLeast (Among (FunctionDoes l.deed l.program) (take l.place l.routines)) l.least
