use Rattle.std.proofs.Common.{take}
use Rattle.std.specs.Prelude.{reverse}
use Rattle.tu_scope_rules.proofs.Passed.{IsAt}
use Rattle.tu_scope_rules.proofs.resolve.resolve_events.Given as goal

abbrev pub invariant-loop-event : goal.invariant-loop-event
invariant-loop-event l = IsAt l.resolver (reverse (take l.event-index l.events))
