-- What it is to go past an event.
use Rattle.std.specs.Prelude.{◌≡◌, ◌++◌}
use Rattle.tu_scope_rules.specs.declared.event.Event.{Event}
use Rattle.tu_scope_rules.specs.declared.resolve.Resolver.{Resolver}
use Rattle.tu_scope_rules.specs.Faults.{fault_of}
use Rattle.tu_scope_rules.specs.Least.{with_first}
use Rattle.tu_scope_rules.specs.Uses.{uses_of_event}
use Rattle.tu_scope_rules.specs.Views.{view_behind}
use Rattle.tu_scope_rules.specs.Seen.{view_in}

-- the view, the least fault and the uses behind the event
pub record Passes (old new : Resolver) (event : Event) : Type 0 where
  pub view : view_in new.environment ≡ view_behind (view_in old.environment) event
  pub fault : new.first ≡ with_first (fault_of (view_in old.environment) event) old.first
  pub uses : new.uses.items ≡ old.uses.items ++ uses_of_event (view_in old.environment) event
