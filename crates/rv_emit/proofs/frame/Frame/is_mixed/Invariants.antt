use Rattle.std.proofs.Common.{◌≡◌, drop}
use Rattle.rv_layout.specs.Moves.{is_mixed}
use Rattle.rv_emit.specs.Placed.{numbers_in}
use Rattle.rv_emit.proofs.frame.Frame.is_mixed.Given as goal

abbrev pub invariant-loop-value : goal.invariant-loop-value
invariant-loop-value l = is_mixed (numbers_in l.self l.to) (numbers_in l.self (drop l.value-index l.from)) ≡ is_mixed (numbers_in l.self l.to) (numbers_in l.self l.from)
