use Rattle.std.proofs.Common.{suc, ◌≡◌, ◌+◌, ◌≤◌, map, drop}
use Rattle.tu_base.specs.Shapes.{field_words}
use Rattle.tu_type_table.specs.Types.{most_words, limited, field_shapes}
use Rattle.tu_type_table.proofs.words.field_words.Given as goal

abbrev pub invariant-loop-field : goal.invariant-loop-field
invariant-loop-field l = record {
  bound : l.sum ≤ suc most_words;
  rest : limited (l.sum + field_words (map (λ row. row.words) l.rows) (field_shapes l.rows (drop l.field-index l.fields))) ≡ limited (field_words (map (λ row. row.words) l.rows) (field_shapes l.rows l.fields));
}
