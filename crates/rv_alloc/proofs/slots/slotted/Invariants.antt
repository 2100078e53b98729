use Rattle.std.proofs.Common.{take}
use Rattle.std.specs.List.{AllZip}
use Rattle.rv_alloc.specs.Holds.{HoldsRoutine, IsSlotted}
use Rattle.rv_alloc.proofs.slots.slotted.Given as goal

abbrev pub invariant-loop-r : goal.invariant-loop-r
invariant-loop-r l = record {
  holds : AllZip HoldsRoutine (take l.r-index l.linear.routines) l.places;
  slots : AllZip IsSlotted (take l.r-index l.linear.routines) l.places;
}
