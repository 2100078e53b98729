use Rattle.std.specs.Prelude.{◌≡◌, [], take}
use Rattle.tu_room_parts.specs.Capped.{capped}
use Rattle.tu_room_joins.specs.Flags.{left, hits}
use Rattle.tu_room_joins.proofs.scalars.meet.Given as goal

abbrev pub invariant-loop-x : goal.invariant-loop-x
invariant-loop-x l = (l.count ≡ capped (hits l.first l.initial.flags (take l.x-index l.list))) × (l.flags ≡ left l.first l.initial.flags (take l.x-index l.list) [])
