use Rattle.tu_room_changes.proofs.Grown.{Grown}
use Rattle.tu_room_changes.proofs.StatementRows.{all_named}
use Rattle.tu_room_changes.proofs.declarations.named.Given as goal

abbrev pub invariant-loop-x : goal.invariant-loop-x
invariant-loop-x l = Grown all_named l.xs l.x-index l.initial.found l.found
