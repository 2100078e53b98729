use Rattle.std.proofs.Common.{take}
use Rattle.std.specs.List.{AllZip}
use Rattle.rv_alloc.specs.Holds.{HoldsRoutine}
use Rattle.rv_alloc.proofs.checker.holds.Given as goal

abbrev pub invariant-loop-i : goal.invariant-loop-i
invariant-loop-i l = AllZip HoldsRoutine (take l.i l.routines) (take l.i l.places)
