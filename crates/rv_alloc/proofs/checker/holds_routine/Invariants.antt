use Rattle.std.proofs.Common.{◌≡◌, take}
use Rattle.rv_flat.specs.Parts.{linear_numbers}
use Rattle.rv_alloc.proofs.Owners.{Owned}
use Rattle.rv_alloc.proofs.checker.holds_routine.Given as goal

abbrev pub invariant-loop-value : goal.invariant-loop-value
invariant-loop-value l = record { numbers : l.value-items ≡ linear_numbers l.r; owned : Owned l.places (take l.value-index l.value-items) l.owners }
