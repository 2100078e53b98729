use Rattle.std.proofs.Common.{suc, ◌≡◌, ◌≤◌, max, map, drop}
use Rattle.tu_base.specs.Shapes.{largest}
use Rattle.tu_type_table.specs.Types.{most_words, limited, variant_shape}
use Rattle.tu_type_table.proofs.words.largest.Given as goal

abbrev pub invariant-loop-variant : goal.invariant-loop-variant
invariant-loop-variant l = record {
  bound : l.most ≤ suc most_words;
  rest : limited (max (largest (map (λ row. row.words) l.rows) (map (variant_shape l.rows) (drop l.variant-index l.variants))) l.most) ≡ limited (largest (map (λ row. row.words) l.rows) (map (variant_shape l.rows) l.variants));
}
