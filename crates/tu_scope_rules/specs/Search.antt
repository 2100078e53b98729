-- What a name stands for: the search through the open scopes, from the innermost outwards.
use Rattle.std.specs.Prelude.{ℕ, List, [], ◌∷◌, Bool, false, ◌||◌, Option, Some, None, if◌then◌else◌, is_some, codes}
use Rattle.std.specs.List.{list_any}
use Rattle.std.specs.Option.{option_or}
use Rattle.std.specs.Str.{bytes_eq}
use Rattle.tu_scope_rules.specs.declared.event.Visibility.{Visibility}
use Rattle.tu_scope_rules.specs.declared.event.Visibility.TheVariants.{All, Listed}
use Rattle.tu_scope_rules.specs.declared.event.Declaration.{Declaration}
use Rattle.tu_scope_rules.specs.declared.event.Context.{Context}
use Rattle.tu_scope_rules.specs.declared.event.Context.TheVariants.{Elsewhere, AfterPointer, InPost}
use Rattle.tu_scope_rules.specs.declared.table.Namespace.{Namespace}
use Rattle.tu_scope_rules.specs.declared.table.Namespace.TheVariants.{Declared, Imported, Early, Outcome}
use Rattle.tu_scope_rules.specs.declared.search.Scope.{Scope}
use Rattle.tu_scope_rules.specs.declared.search.Found.{Found}
use Rattle.tu_scope_rules.specs.declared.search.Found.TheVariants.{Known, Predefined, Hidden, Nowhere}

-- the names that are known from the start
unfoldable pub predefined : List (List ℕ)
predefined = codes "abs" ∷ codes "min" ∷ codes "max" ∷ codes "ord" ∷ codes "chr" ∷ codes "succ" ∷ codes "pred" ∷ codes "length" ∷ codes "index"
    ∷ codes "repeat" ∷ codes "intstr" ∷ codes "strint" ∷ codes "lower" ∷ codes "upper" ∷ codes "eof" ∷ []

abbrev pub is_predefined : List ℕ → Bool
is_predefined name = list_any (bytes_eq name) predefined

abbrev pub known_or : Option Declaration → Found → Found
known_or None other = other
known_or (Some declaration) other = Known declaration

-- where the search ends: with declarations around that are not seen (`is_hidden`), or without
abbrev pub outside : (name : List ℕ) → (is_hidden : Bool) → Found
outside name is_hidden = if is_predefined name then Predefined else (if is_hidden then Hidden else Nowhere)

-- `at` is the latest declaration that is recorded under a name of a namespace in a scope.
module _ (at : (scope : ℕ) → Namespace → (name : List ℕ) → Option Declaration) (name : List ℕ) where
  -- what some contexts alone see: after `pointer to` the collection whose element type this is, and in a `post` the function's result
  abbrev pub special : Context → (scope : ℕ) → Option Declaration
  special Elsewhere scope = None
  special AfterPointer scope = at scope Early name
  special InPost scope = at scope Outcome name

  -- In a scope a name stands for that, else for what is declared there, else for what the scope's list brings in.
  abbrev pub in_scope : Context → (scope : ℕ) → Option Declaration
  in_scope context scope = option_or (special context scope) (option_or (at scope Declared name) (at scope Imported name))

  -- the name is declared in one of these scopes
  abbrev pub is_declared_around : List Scope → Bool
  is_declared_around [] = false
  is_declared_around (scope ∷ scopes) = is_some (at scope.number Declared name) || is_declared_around scopes

  -- behind a scope that sees all, the search goes on around it
  abbrev pub beyond : Visibility → (around : List Scope) → Found → Found
  beyond All around further = further
  beyond Listed around further = outside name (is_declared_around around)

  -- the innermost scope is the first one
  abbrev pub search : Context → List Scope → Found
  search context [] = outside name false
  search context (scope ∷ scopes) = known_or (in_scope context scope.number) (beyond scope.visibility scopes (search context scopes))
