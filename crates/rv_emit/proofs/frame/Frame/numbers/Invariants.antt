use Rattle.std.proofs.Common.{◌≡◌, ◌<◌, ◌++◌, drop}
use Rattle.std.specs.Prelude.{All}
use Rattle.rv_emit.specs.Placed.{numbers_in}
use Rattle.rv_emit.proofs.frame.Frame.numbers.Given as goal

abbrev pub invariant-loop-value : goal.invariant-loop-value
invariant-loop-value l = record {
  is : l.numbers.items ++ numbers_in l.self (drop l.value-index l.values) ≡ numbers_in l.self l.values;
  bound : All (λ n. n < 8589934592) l.numbers.items;
}
