use Rattle.std.proofs.Common.{◌≡◌, ◌+◌, ◌≤◌, drop}
use Rattle.rv_text.specs.Lengths.{routines_length}
use Rattle.rv_emit.specs.Placed.{routines_of, capped}
use Rattle.rv_emit.proofs.sizes.counted_words.Given as goal

abbrev pub invariant-loop-k : goal.invariant-loop-k
invariant-loop-k l = record {
  counted : capped (l.words + routines_length (routines_of l.assigned) (drop l.k (routines_of l.assigned))) ≡ capped (20 + routines_length (routines_of l.assigned) (routines_of l.assigned));
  bound : l.words ≤ 18446744073709551615;
}
