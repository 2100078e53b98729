-- What is recorded of names.
use Rattle.std.specs.Prelude.{ℕ, List, [], ◌∷◌, Bool, Option, None, Some, nat_eq, ◌&&◌, if◌then◌else◌}
use Rattle.std.specs.Str.{bytes_eq}
use Rattle.tu_scope_rules.specs.declared.event.Declaration.{Declaration}
use Rattle.tu_scope_rules.specs.declared.table.Namespace.{Namespace}
use Rattle.tu_scope_rules.specs.Namespaces.{namespace_number}

-- the declaration under a name in a scope and a namespace
pub record Entry : Type 0 where
  pub scope : ℕ
  pub namespace : ℕ
  pub name : List ℕ
  pub declaration : Declaration

abbrev pub is_under : (scope namespace : ℕ) (name : List ℕ) (scope' namespace' : ℕ) (name' : List ℕ) → Bool
is_under scope namespace name scope' namespace' name' = nat_eq scope scope' && (nat_eq namespace namespace' && bytes_eq name name')

-- by the number of the namespace
abbrev pub entry_under : List Entry → (scope namespace : ℕ) (name : List ℕ) → Option Declaration
entry_under [] scope namespace name = None
entry_under (e ∷ es) scope namespace name = if is_under scope namespace name e.scope e.namespace e.name then Some e.declaration else entry_under es scope namespace name

abbrev pub entry_at : List Entry → (scope : ℕ) → Namespace → (name : List ℕ) → Option Declaration
entry_at es scope namespace name = entry_under es scope (namespace_number namespace) name

-- with one more
abbrev pub put_at : ((scope : ℕ) → Namespace → (name : List ℕ) → Option Declaration) → ℕ → Namespace → List ℕ → Declaration → (scope : ℕ) → Namespace → (name : List ℕ) → Option Declaration
put_at at scope' namespace' name' declaration scope namespace name = if is_under scope (namespace_number namespace) name scope' (namespace_number namespace') name' then Some declaration else at scope namespace name
