use Rattle.std.specs.Prelude.{◌≡◌, map, take}
use Rattle.tu_base.specs.Shapes.{all_words}
use Rattle.tu_room_parts.specs.Capped.{capped}
use Rattle.tu_room_parts.proofs.shapes.words.Given as goal

abbrev pub invariant-loop-shape : goal.invariant-loop-shape
invariant-loop-shape l = l.known ≡ map capped (all_words (take l.shape-index l.shapes))
