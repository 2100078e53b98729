use Rattle.std.specs.Prelude.{◌≡◌, take, map}
use Rattle.tu_core.specs.Rooms.{is_scalar_local}
use Rattle.tu_room.proofs.program.scalar_flags.Given as goal

abbrev pub invariant-loop-local : goal.invariant-loop-local
invariant-loop-local l = l.flags.items ≡ map (is_scalar_local l.shapes) (take l.local-index l.locals)
