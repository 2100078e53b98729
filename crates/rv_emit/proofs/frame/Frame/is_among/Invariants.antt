use Rattle.std.proofs.Common.{◌≡◌, drop}
use Rattle.rv_layout.specs.Moves.{is_among}
use Rattle.rv_emit.specs.Placed.{numbers_in}
use Rattle.rv_emit.proofs.frame.Frame.is_among.Given as goal

abbrev pub invariant-loop-value : goal.invariant-loop-value
invariant-loop-value l = is_among (numbers_in l.self (drop l.value-index l.values)) l.number ≡ is_among (numbers_in l.self l.values) l.number
