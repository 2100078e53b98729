use Rattle.std.specs.Prelude.{◌≡◌, take, sum_by}
use Rattle.tu_core.specs.Rooms.{local_words}
use Rattle.tu_room_parts.specs.Capped.{capped}
use Rattle.tu_room.proofs.program.locals_words.Given as goal

abbrev pub invariant-loop-local : goal.invariant-loop-local
invariant-loop-local l = l.sum ≡ capped (sum_by (local_words l.known) (take l.local-index l.locals))
