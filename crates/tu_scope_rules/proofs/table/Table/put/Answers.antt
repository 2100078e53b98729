use Rattle.std.proofs.Common.{ap, ◌∙◌}
use Rattle.tu_scope_rules.specs.Entries.{entry_at, put_at}
use Rattle.tu_scope_rules.specs.Table.{entries_of}
use Rattle.tu_scope_rules.proofs.TableLemmas.{put-is}
use Rattle.tu_scope_rules.proofs.table.Table.put.Goals as goal

pub returns : goal.returns
returns c =
    ap (λ es. entry_at (entries_of es)) c.in_ok-insert.ensures.entries
    ∙ (put-is (record { scope = c.args.scope; namespace = c.number.result; name = c.args.name }) c.args.namespace c.args.declaration c.self.inside.entries.entries c.number.ensures
    ∙ ap (λ es. put_at (entry_at es) c.args.scope c.args.namespace c.args.name.now c.args.declaration) c.self.view_is)
