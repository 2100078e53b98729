use Rattle.std.specs.Prelude.{◌≡◌, map, take}
use Rattle.tu_core.specs.Acts.{routine_acts}
use Rattle.tu_acts.proofs.routines.Texts.of.Given as goal

abbrev pub invariant-loop-r : goal.invariant-loop-r
invariant-loop-r l = l.routines ≡ map routine_acts (take l.r-index l.r-items)
