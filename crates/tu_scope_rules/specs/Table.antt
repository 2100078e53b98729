-- A table as the list of what it holds.
use Rattle.std.specs.Prelude.{List, [], ◌∷◌}
use Rattle.tu_scope_rules.specs.declared.event.Declaration.{Declaration}
use Rattle.tu_scope_rules.specs.declared.table.Key.{Key}
use Rattle.tu_scope_rules.specs.Entries.{Entry}

abbrev pub entries_of : List (Key × Declaration) → List Entry
entries_of [] = []
entries_of (e ∷ es) = record { scope = e.0.scope; namespace = e.0.namespace; name = e.0.name.now; declaration = e.1 } ∷ entries_of es
