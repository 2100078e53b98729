use Rattle.std.specs.Prelude.{◌≡◌, take, slice_index, sum_by}
use Rattle.tu_room_parts.specs.Capped.{capped}
use Rattle.tu_room_parts.proofs.shapes.field_words.Given as goal

abbrev pub invariant-loop-field : goal.invariant-loop-field
invariant-loop-field l = l.sum ≡ capped (sum_by (slice_index l.known) (take l.field-index l.fields))
