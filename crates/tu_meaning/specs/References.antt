-- What a program stores in the reference meaning: what is lent or bound is a location, and nothing is copied or copied back.
use Rattle.std.specs.Prelude.{ℕ, zero, suc, ◌==◌, true, false, List, [], ◌∷◌, ◌++◌, Option, Some, None, ℤ}
use Rattle.tu_base.specs.Values.{Content, Way, alone}
use Rattle.tu_meaning.specs.Store.{Root, OfProgram, OfActivation, OfCall, OfCollection, Place, Held, holds_nothing, Actual, GivenValue, LentPlace, Passing, Store, unset_store, with_held, fetch, assign}

-- A place, seen from any activation: that of the activation with so many others around it. What stands in the program or in a collection is
-- at level 0.
pub record Location : Type 0 where
  pub level : ℕ
  pub place : Place

-- what a name of the running activation stands for: a location, with the bounds that it has by this name
pub record Alias : Type 0 where
  pub location : Location
  pub bounds : List ℤ

-- A store for each level, and the names of the running activation that stand for locations.
pub record Cells : Type 0 where
  pub stores : (level : ℕ) → Store
  pub level : ℕ
  pub aliases : (name : ℕ) → Option Alias

abbrev pub unset_cells : Cells
unset_cells = record { stores = λ k. unset_store; level = 0; aliases = λ x. None }

abbrev pub at_level : ℕ → Root → Way → Location
at_level level root way = record { level = level; place = record { root = root; way = way } }

-- a part of what is at a location
abbrev pub deeper : Location → Way → Location
deeper l way = at_level l.level l.place.root (l.place.way ++ way)

abbrev pub or_own : Option Alias → (level name : ℕ) → Way → Location
or_own None level x way = at_level level (OfActivation x) way
or_own (Some a) level x way = deeper a.location way

-- the level of what stands by itself, seen from the running activation
abbrev pub home : (level : ℕ) → Root → ℕ
home level (OfProgram x) = 0
home level (OfActivation x) = level
home level (OfCall x) = level
home level (OfCollection c k) = 0

abbrev pub locate_root : (level : ℕ) → (ℕ → Option Alias) → Root → Way → Location
locate_root level aliases (OfProgram x) way = at_level 0 (OfProgram x) way
locate_root level aliases (OfActivation x) way = or_own (aliases x) level x way
locate_root level aliases (OfCall x) way = at_level level (OfCall x) way
locate_root level aliases (OfCollection c k) way = at_level 0 (OfCollection c k) way

-- the location of a place
abbrev pub locate : (level : ℕ) → (ℕ → Option Alias) → Place → Location
locate level aliases p = locate_root level aliases p.root p.way

-- the same but at k
abbrev pub changed_at : {A : Type 0} → (ℕ → A) → ℕ → A → ℕ → A
changed_at f k a j = elim (j == k) [ true ↦ a | false ↦ f j ]

abbrev pub fetch_at : (ℕ → Store) → Location → Content
fetch_at stores l = fetch (stores l.level) l.place

abbrev pub assign_at : (ℕ → Store) → Location → Content → ℕ → Store
assign_at stores l content = changed_at stores l.level (assign (stores l.level) l.place content)

abbrev pub held_by : (ℕ → Store) → (level : ℕ) → Root → Held → ℕ → Store
held_by stores level root h = changed_at stores (home level root) (with_held (stores (home level root)) root h)

abbrev pub bounds_by : Option Alias → Held → List ℤ
bounds_by None own = own.bounds
bounds_by (Some a) own = a.bounds

abbrev pub bounds_in : (ℕ → Store) → (level : ℕ) → (ℕ → Option Alias) → Root → List ℤ
bounds_in stores level aliases (OfProgram x) = ((stores 0).globals x).bounds
bounds_in stores level aliases (OfActivation x) = bounds_by (aliases x) ((stores level).locals x)
bounds_in stores level aliases (OfCall x) = ((stores level).temporaries x).bounds
bounds_in stores level aliases (OfCollection c k) = ((stores 0).elements c k).bounds

-- a formal of a value has a place of its own
abbrev pub own_formal : Actual → Held
own_formal (GivenValue bounds v) = record { content = alone v; bounds = bounds }
own_formal (LentPlace is_var bounds p) = holds_nothing

abbrev pub own_formals : List Actual → ℕ → Held
own_formals [] x = holds_nothing
own_formals (a ∷ more) zero = own_formal a
own_formals (a ∷ more) (suc x) = own_formals more x

abbrev pub alias_of : (level : ℕ) → (ℕ → Option Alias) → Actual → Option Alias
alias_of level aliases (GivenValue bounds v) = None
alias_of level aliases (LentPlace is_var bounds p) = Some (record { location = locate level aliases p; bounds = bounds })

abbrev pub alias_formals : (level : ℕ) → (ℕ → Option Alias) → List Actual → ℕ → Option Alias
alias_formals level aliases [] x = None
alias_formals level aliases (a ∷ more) zero = alias_of level aliases a
alias_formals level aliases (a ∷ more) (suc x) = alias_formals level aliases more x

-- the names of an activation that begins
abbrev pub entered : List Actual → Store
entered actuals = record unset_store { locals = own_formals actuals }

-- a bound name has the bounds of its root, where it is all of that
abbrev pub bound_alias : (ℕ → Store) → (level : ℕ) → (ℕ → Option Alias) → Place → Alias
bound_alias stores level aliases p = record { location = locate level aliases p; bounds = elim p.way [ [] ↦ bounds_in stores level aliases p.root | x ∷ way ↦ [] ] }

-- Formals that are lent and names of `bind` are locations. What is declared is none. As a call or a scope is left, the names stand for what
-- they did before.
abbrev pub by_reference : Passing Cells
by_reference = record {
  fetch = λ s p. fetch_at s.stores (locate s.level s.aliases p);
  bounds = λ s root. bounds_in s.stores s.level s.aliases root;
  assign = λ s p content. record s { stores = assign_at s.stores (locate s.level s.aliases p) content };
  declare = λ s root h. record s { stores = held_by s.stores s.level root h };
  enter = λ actuals s. record { stores = changed_at s.stores (suc s.level) (entered actuals); level = suc s.level; aliases = alias_formals s.level s.aliases actuals };
  leave = λ actuals caller ended. record ended { level = caller.level; aliases = caller.aliases };
  bind = λ is_var name p s. record s { aliases = changed_at s.aliases name (Some (bound_alias s.stores s.level s.aliases p)) };
  unbind = λ is_var name p opened s. record s { aliases = opened.aliases };
}
