use Rattle.tu_room_parts.proofs.Sums.{Summed}
use Rattle.tu_room_counts.proofs.StatementRows.{all_named}
use Rattle.tu_room_counts.proofs.declarations.named.Given as goal

abbrev pub invariant-loop-x : goal.invariant-loop-x
invariant-loop-x l = Summed (all_named l.count) l.xs l.x-index l.sum
