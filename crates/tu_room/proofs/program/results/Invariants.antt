use Rattle.std.specs.Prelude.{◌≡◌, take, map}
use Rattle.tu_room.specs.Tables.{result_known}
use Rattle.tu_room.proofs.program.results.Given as goal

abbrev pub invariant-loop-routine : goal.invariant-loop-routine
invariant-loop-routine l = l.words ≡ map (result_known l.known) (take l.routine-index l.routines)
