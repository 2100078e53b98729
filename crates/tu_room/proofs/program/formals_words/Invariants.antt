use Rattle.std.specs.Prelude.{◌≡◌, take, sum_by}
use Rattle.tu_core.specs.Rooms.{formal_words}
use Rattle.tu_room_parts.specs.Capped.{capped}
use Rattle.tu_room.proofs.program.formals_words.Given as goal

abbrev pub invariant-loop-formal : goal.invariant-loop-formal
invariant-loop-formal l = l.sum ≡ capped (sum_by formal_words (take l.formal-index l.formals))
