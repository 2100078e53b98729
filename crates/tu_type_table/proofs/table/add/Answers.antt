use Rattle.std.proofs.Common.{List, sym, ap, ◌∙◌, subst, rules}
use Rattle.tu_type_table.specs.declared.types.Row.{Row}
use Rattle.tu_type_table.specs.Index.{IsTable, number_from}
use Rattle.tu_type_table.proofs.OneMore.{index_put, table_push}
use Rattle.tu_type_table.proofs.table.add.Goals as goal

pub returns-in-Ok-clause-kept : goal.returns-in-Ok-clause-kept
returns-in-Ok-clause-kept c = λ q.
    index_put c.args.rows.now.items c.args.row c.args.key c.len-own.result c.args.index.now.entries c.insert.new.self.entries c.requires.tied c.in-Ok.ensures.entries c.requires.keyed c.requires.is_new (search rules) q
    ∙ ap (λ (types : List Row). number_from q 0 types) (sym c.in_ok-push.ensures.items)

pub returns-in-Ok-clause-table : goal.returns-in-Ok-clause-table
returns-in-Ok-clause-table c = subst IsTable (sym c.in_ok-push.ensures.items) (table_push _ _ c.requires.a_table c.requires.is_small)
