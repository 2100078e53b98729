-- Tables in the order of their numbers.
use Rattle.std.specs.Prelude.{ℕ, ◌==◌, List, [], ◌∷◌, Option, Some, None, if◌then◌else◌}
use Rattle.std.specs.Ordering.{nat_cmp}
use Rattle.std.specs.BTreeMap.{insert_entry}
use Rattle.tu_scope_rules.specs.declared.name_use.NameUse.{NameUse}
use Rattle.tu_type_operands.specs.declared.names.Entity.{Entity}

-- what stands under a number
abbrev pub found_in : {A : Type 0} → List (ℕ × A) → ℕ → Option A
found_in [] n = None
found_in (e ∷ more) n = if e.0 == n then Some e.1 else found_in more n

-- a table in which this stands under a number
abbrev pub with_entry : {A : Type 0} → ℕ → A → List (ℕ × A) → List (ℕ × A)
with_entry n a es = insert_entry nat_cmp es n a

abbrev pub entity_in : List (ℕ × Entity) → ℕ → Option Entity
entity_in es n = found_in es n

-- the uses of names by where they begin
abbrev pub uses_by_start : List NameUse → List (ℕ × Option ℕ)
uses_by_start [] = []
uses_by_start (u ∷ more) = with_entry u.start u.declaration (uses_by_start more)

abbrev pub declaration_or : Option (Option ℕ) → Option ℕ
declaration_or None = None
declaration_or (Some declaration) = declaration

-- the declaration of the name that begins at a place; none for a predefined name
abbrev pub declaration_at : List (ℕ × Option ℕ) → (start : ℕ) → Option ℕ
declaration_at uses start = declaration_or (found_in uses start)
