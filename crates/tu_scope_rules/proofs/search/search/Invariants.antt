use Rattle.std.proofs.Common.{◌≡◌, length}
use Rattle.std.specs.Prelude.{reverse}
use Rattle.tu_scope_rules.specs.Entries.{entry_at}
use Rattle.tu_scope_rules.specs.Search.{search}
use Rattle.tu_scope_rules.proofs.search.search.Given as goal

abbrev pub invariant-loop-scope : goal.invariant-loop-scope
invariant-loop-scope l = search (entry_at l.table) l.name l.context (reverse l.rest) ≡ search (entry_at l.table) l.name l.context (reverse l.initial.rest)

abbrev pub decreases-loop-scope : goal.decreases-loop-scope
decreases-loop-scope l = length l.rest
