use Rattle.std.specs.Prelude.{◌≡◌, ◌+◌, ◌++◌, drop, map}
use Rattle.tu_overlap.specs.Pairs.{pair_view}
use Rattle.tu_overlap.proofs.Onward.{with_later}
use Rattle.tu_overlap.proofs.pairing.add_with.Given as goal

abbrev pub invariant-loop-second : goal.invariant-loop-second
invariant-loop-second l = map pair_view l.pairs ++ with_later l.first l.is_var l.p l.second (drop l.second l.actuals) ≡ map pair_view l.initial.pairs ++ with_later l.first l.is_var l.p (l.first + 1) (drop (l.first + 1) l.actuals)
