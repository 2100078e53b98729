use Rattle.std.specs.Prelude.{◌≡◌, drop, max}
use Rattle.tu_base.specs.Shapes.{largest}
use Rattle.tu_room_parts.specs.Capped.{capped}
use Rattle.tu_room_parts.proofs.shapes.largest.Given as goal

abbrev pub invariant-loop-v : goal.invariant-loop-v
invariant-loop-v l = max l.most (capped (largest l.known (drop l.v-index l.variants))) ≡ capped (largest l.known l.variants)
