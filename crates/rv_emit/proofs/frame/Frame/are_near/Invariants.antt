use Rattle.std.proofs.Common.{◌≡◌, drop}
use Rattle.rv_layout.specs.Moves.{are_near}
use Rattle.rv_emit.specs.Placed.{frame_head, numbers_in}
use Rattle.rv_emit.proofs.frame.Frame.are_near.Given as goal

abbrev pub invariant-loop-value : goal.invariant-loop-value
invariant-loop-value l = are_near (frame_head l.self) (numbers_in l.self (drop l.value-index l.values)) ≡ are_near (frame_head l.self) (numbers_in l.self l.values)
