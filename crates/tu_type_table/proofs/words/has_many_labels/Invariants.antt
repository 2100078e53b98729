use Rattle.std.proofs.Common.{◌≡◌, ◌+◌, ◌≤◌, drop, length}
use Rattle.std.specs.Prelude.{sum_by}
use Rattle.tu_type_table.specs.Types.{most_parts}
use Rattle.tu_type_table.proofs.words.has_many_labels.Given as goal

abbrev pub invariant-loop-variant : goal.invariant-loop-variant
invariant-loop-variant l = record {
  bound : l.left ≤ most_parts;
  rest : sum_by (λ v. length v.labels) (drop l.variant-index l.variants) + most_parts ≡ sum_by (λ v. length v.labels) l.variants + l.left;
}
