use Rattle.std.proofs.Common.{◌≡◌, ℕ, ◌+◌, ◌*◌, ap, ◌∙◌, arith, map, drop, slice_index_or}
use Rattle.tu_base.specs.Shapes.{elements, span_length}
use Rattle.tu_type_table.specs.Types.{limited, span_of}
use Rattle.tu_type_table.proofs.CutOff.{one_more}
use Rattle.tu_type_table.proofs.words.elements.Goals as goal

pub loop-index-preserved : goal.loop-index-preserved
loop-index-preserved c =
    let types = c.args.rows.now in
    let xs = c.args.indexes.now in
    let i = c.loop-index.index-index in
    let each : c.into-length.result ≡ span_length (span_of types (slice_index_or xs i 0)) = c.into-length.ensures ∙ c.span_length.ensures ∙ ap span_length c.span_of.ensures.value in
    let product = c.limited-product.ensures.value ∙ ap (λ (n : ℕ). limited (c.loop-index.product * n)) each in
    record {
      bound = c.limited-product.ensures.bound;
      rest =
          ap (λ (n : ℕ). limited (n * elements (map (span_of types) (drop (i + 1) xs)))) product
          ∙ one_more types xs i c.loop-index.product (omega arith)
          ∙ c.loop-index.invariant.rest;
    }
