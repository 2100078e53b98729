-- Numbers that are cut off.
use Rattle.std.specs.Prelude.{ℕ, min}
use Rattle.tu_room_parts.specs.declared.capped.TheConstants.{MOST_ROOM}

abbrev pub capped : ℕ → ℕ
capped n = min n MOST_ROOM
