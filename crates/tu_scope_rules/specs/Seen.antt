-- What the environment of the code shows.
use Rattle.std.specs.Prelude.{reverse}
use Rattle.tu_scope_rules.specs.Entries.{entry_at}
use Rattle.tu_scope_rules.specs.Views.{View}
use Rattle.tu_scope_rules.specs.declared.environment.Environment.{Environment}

abbrev pub view_in : Environment → View
view_in environment = record { scopes = reverse environment.scopes.items; at = entry_at environment.table }
