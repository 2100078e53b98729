use Rattle.std.proofs.Common.{◌≡◌, ◌++◌, drop, map}
use Rattle.rv_flat.specs.Flat.{flat_routine}
use Rattle.rv_flat.proofs.units.flat_exactly.Given as goal

abbrev pub invariant-loop-r : goal.invariant-loop-r
invariant-loop-r l = l.routines ++ map flat_routine (drop l.r-index l.unit.routines) ≡ map flat_routine l.unit.routines
