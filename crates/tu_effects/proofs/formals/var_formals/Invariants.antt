use Rattle.std.specs.Prelude.{take}
use Rattle.tu_core.specs.Effects.{Among, IsVarFormal}
use Rattle.tu_effects.specs.Least.{IsLeast}
use Rattle.tu_effects.proofs.formals.var_formals.Given as goal

abbrev pub invariant-loop-f : goal.invariant-loop-f
invariant-loop-f l = IsLeast (Among IsVarFormal (take l.f-index l.fs)) l.least
