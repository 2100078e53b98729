-- The events of listed names.
use Rattle.tu_token.specs.declared.class.Class.TheVariants.{Name}
use Rattle.tu_token.specs.Rules.{t}
use Rattle.tu_expr.specs.Parts.{Part}
use Rattle.tu_scope_rules.specs.declared.event.Event.{Event}
use Rattle.tu_scope_parts.specs.declared.names.NameRole.{NameRole}
use Rattle.tu_scope_parts.specs.declared.names.NameRole.TheVariants as role
use Rattle.tu_scope_parts.specs.Walk.{declared, member, early, outcome}

abbrev pub event_for : NameRole → Part (t Name) → Event
event_for role.Declared = declared
event_for role.Member = member
event_for role.Early = early
event_for role.Outcome = outcome
