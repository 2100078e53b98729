use Rattle.tu_room_parts.proofs.Sums.{Summed}
use Rattle.tu_room_counts.proofs.StatementRows.{all_shown}
use Rattle.tu_room_counts.proofs.plain.shown.Given as goal

abbrev pub invariant-loop-x : goal.invariant-loop-x
invariant-loop-x l = Summed (all_shown l.count) l.xs l.x-index l.sum
