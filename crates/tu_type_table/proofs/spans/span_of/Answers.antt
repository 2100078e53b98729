use Rattle.std.proofs.Common.{ℕ, ap, ◌∙◌}
use Rattle.tu_type_table.specs.declared.types.Row.{Row}
use Rattle.tu_type_table.specs.Types.{row_at, span_of_form}
use Rattle.tu_type_table.proofs.spans.span_of.Goals as goal

pub returns-clause-value : goal.returns-clause-value
returns-clause-value c =
    let types = c.args.rows.now in
    c.span_of_form.ensures.value types
    ∙ ap (λ (row : Row). span_of_form types row.form) c.row_at.ensures
    ∙ ap (λ (n : ℕ). span_of_form types (row_at types n).form) c.bare_of-bare.ensures
