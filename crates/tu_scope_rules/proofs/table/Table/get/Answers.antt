use Rattle.std.proofs.Common.{ap, ◌∙◌}
use Rattle.tu_scope_rules.specs.Entries.{entry_at, entry_under}
use Rattle.tu_scope_rules.specs.Table.{entries_of}
use Rattle.tu_scope_rules.proofs.TableLemmas.{lookup-key}
use Rattle.tu_scope_rules.proofs.table.Table.get.Goals as goal

pub returns : goal.returns
returns c =
    c.copied.ensures ∙ (c.get.ensures.value
    ∙ (lookup-key (record { scope = c.args.scope; namespace = c.number.result; name = c.args.name }) c.self.inside.entries.entries
    ∙ (ap (λ k. entry_under (entries_of c.self.inside.entries.entries) c.args.scope k c.args.name.now) c.number.ensures
    ∙ ap (λ es. entry_at es c.args.scope c.args.namespace c.args.name.now) c.self.view_is)))
