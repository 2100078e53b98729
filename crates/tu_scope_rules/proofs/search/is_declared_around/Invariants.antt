use Rattle.std.proofs.Common.{◌≡◌, length}
use Rattle.std.specs.Prelude.{reverse}
use Rattle.tu_scope_rules.specs.Entries.{entry_at}
use Rattle.tu_scope_rules.specs.Search.{is_declared_around}
use Rattle.tu_scope_rules.proofs.search.is_declared_around.Given as goal

abbrev pub invariant-loop-scope : goal.invariant-loop-scope
invariant-loop-scope l = is_declared_around (entry_at l.table) l.name (reverse l.rest) ≡ is_declared_around (entry_at l.table) l.name (reverse l.initial.rest)

abbrev pub decreases-loop-scope : goal.decreases-loop-scope
decreases-loop-scope l = length l.rest
