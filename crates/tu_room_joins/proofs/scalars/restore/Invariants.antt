use Rattle.std.specs.Prelude.{◌≡◌, take}
use Rattle.tu_room_joins.specs.Flags.{left}
use Rattle.tu_room_joins.proofs.scalars.restore.Given as goal

abbrev pub invariant-loop-x : goal.invariant-loop-x
invariant-loop-x l = l.unmet ≡ left l.first l.flags l.list (take l.x-index l.list)
