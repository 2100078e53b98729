use Rattle.std.proofs.Common.{◌≡◌, ◌++◌, take, drop, map}
use Rattle.rv_layout.specs.Moves.{exchanged}
use Rattle.rv_emit.proofs.handing.exchange.Given as goal

abbrev pub invariant-loop-number : goal.invariant-loop-number
invariant-loop-number l = l.numbers ≡ map (exchanged l.a l.b) (take l.number-index l.fn.numbers) ++ drop l.number-index l.fn.numbers
