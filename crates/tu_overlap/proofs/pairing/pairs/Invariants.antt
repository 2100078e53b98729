use Rattle.std.specs.Prelude.{◌≡◌, ◌++◌, drop, map}
use Rattle.tu_overlap.specs.Pairs.{pair_view}
use Rattle.tu_overlap.proofs.Onward.{from_first}
use Rattle.tu_overlap.proofs.pairing.pairs.Given as goal

abbrev pub invariant-loop-first : goal.invariant-loop-first
invariant-loop-first l = map pair_view l.pairs ++ from_first l.first (drop l.first l.actuals) ≡ from_first 0 l.actuals
