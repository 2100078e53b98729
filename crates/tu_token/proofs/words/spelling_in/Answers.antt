use Rattle.std.proofs.Common.{sym, ◌∙◌}
use Rattle.tu_token.proofs.Entries.{at_entry, past_entry}
use Rattle.tu_token.proofs.words.spelling_in.Goals as goal

pub returns-then-eq : goal.returns-then-eq
returns-then-eq c = at_entry (λ e. (e.0.now, e.1)) c.args.table.now c.loop-entry.entry-index _ c.args.class _ c.loop-entry-test.true (sym c.eq.ensures ∙ c.if-eq.true) c.loop-entry.invariant

pub loop-entry-preserved : goal.loop-entry-preserved
loop-entry-preserved c = past_entry (λ e. (e.0.now, e.1)) c.args.table.now c.loop-entry.entry-index _ c.args.class _ c.loop-entry-test.true (sym c.eq.ensures ∙ c.if-eq.false) c.loop-entry.invariant
