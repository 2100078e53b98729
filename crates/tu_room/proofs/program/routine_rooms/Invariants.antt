use Rattle.std.specs.Prelude.{◌≡◌, take, map}
use Rattle.tu_room.specs.Tables.{room_at}
use Rattle.tu_room.proofs.program.routine_rooms.Given as goal

abbrev pub invariant-loop-r : goal.invariant-loop-r
invariant-loop-r l = l.rooms ≡ map (room_at l.p) (take l.r-index l.r-items)
