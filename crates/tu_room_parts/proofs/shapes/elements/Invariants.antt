use Rattle.tu_room_parts.proofs.Known.{Multiplied}
use Rattle.tu_room_parts.proofs.shapes.elements.Given as goal

abbrev pub invariant-loop-s : goal.invariant-loop-s
invariant-loop-s l = Multiplied l.indexes l.s-index l.product
