use Rattle.std.proofs.Common.{sym, ◌∙◌}
use Rattle.tu_type_table.proofs.CutOff.{where_true, where_false}
use Rattle.tu_type_table.proofs.words.words_of_form.Goals as goal

pub returns-then-is_wide : goal.returns-then-is_wide
returns-then-is_wide c = where_true _ _ _ (sym c.if-is_wide.true ∙ c.is_wide.ensures c.args.rows.now)

pub returns-else-is_wide : goal.returns-else-is_wide
returns-else-is_wide c = c.words_of.ensures.value ∙ where_false _ 4194305 _ (sym c.if-is_wide.false ∙ c.is_wide.ensures c.args.rows.now)
