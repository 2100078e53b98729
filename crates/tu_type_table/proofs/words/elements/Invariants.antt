use Rattle.std.proofs.Common.{suc, ◌≡◌, ◌*◌, ◌≤◌, map, drop}
use Rattle.tu_base.specs.Shapes.{elements}
use Rattle.tu_type_table.specs.Types.{most_words, limited, span_of}
use Rattle.tu_type_table.proofs.words.elements.Given as goal

abbrev pub invariant-loop-index : goal.invariant-loop-index
invariant-loop-index l = record {
  bound : l.product ≤ suc most_words;
  rest : limited (l.product * elements (map (span_of l.rows) (drop l.index-index l.indexes))) ≡ limited (elements (map (span_of l.rows) l.indexes));
}
