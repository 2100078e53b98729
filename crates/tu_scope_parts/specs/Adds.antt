-- What is added of a part of a tree.
use Rattle.std.specs.Prelude.{◌≡◌, List, ◌++◌}
use Rattle.grammar.specs.Description.{Description}
use Rattle.tu_token.specs.Rules.{Rule}
use Rattle.tu_expr.specs.Parts.{Part}
use Rattle.tu_scope_rules.specs.declared.event.Context.{Context}
use Rattle.tu_scope_rules.specs.declared.event.Event.{Event}
use Rattle.tu_scope_parts.specs.Walk.{events}

-- these events were added
pub record Extends (events old new : List Event) : Type 0 where
  pub is : new ≡ old ++ events

-- the events of a part were added
pub record Adds {d : Description Rule} (context : Context) (x : Part d) (old new : List Event) : Type 0 where
  pub is : new ≡ old ++ events context x
