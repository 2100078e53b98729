-- The used names of a text, each with its declaration.
use Rattle.std.specs.Prelude.{List, [], ◌∷◌, ◌++◌, Option, Some, None}
use Rattle.tu_scope_rules.specs.Names.{NameAt}
use Rattle.tu_scope_rules.specs.Views.{View, look_up, here, awaited, view_of}
use Rattle.tu_scope_rules.specs.declared.event.Context.TheVariants.{Elsewhere}
use Rattle.tu_scope_rules.specs.declared.event.Entity.{Entity}
use Rattle.tu_scope_rules.specs.declared.event.Entity.TheVariants.{Module}
use Rattle.tu_scope_rules.specs.declared.event.Declaration.{Declaration}
use Rattle.tu_scope_rules.specs.declared.event.Event.{Event}
use Rattle.tu_scope_rules.specs.declared.event.Event.TheVariants.{Import, Export, Use, Select, Body}
use Rattle.tu_scope_rules.specs.declared.table.Namespace.TheVariants.{Declared}
use Rattle.tu_scope_rules.specs.declared.search.Found.{Found}
use Rattle.tu_scope_rules.specs.declared.search.Found.TheVariants.{Known, Predefined}
use Rattle.tu_scope_rules.specs.declared.name_use.NameUse.{NameUse}

-- none or one
abbrev pub listed : Option NameUse → List NameUse
listed None = []
listed (Some one) = one ∷ []

abbrev pub use_of : NameAt → Found → List NameUse
use_of name (Known declaration) = record { start = name.start; declaration = Some declaration.number } ∷ []
use_of name Predefined = record { start = name.start; declaration = None } ∷ []
use_of name other = []

abbrev pub use_of_declaration : NameAt → Option Declaration → List NameUse
use_of_declaration name None = []
use_of_declaration name (Some declaration) = record { start = name.start; declaration = Some declaration.number } ∷ []

abbrev pub uses_in : View → (member : NameAt) → Entity → List NameUse
uses_in view member (Module scope) = use_of_declaration member (view.at scope Declared member.text)
uses_in view member other = []

abbrev pub uses_of_member : View → (member : NameAt) → Found → List NameUse
uses_of_member view member (Known declaration) = uses_in view member declaration.entity
uses_of_member view member other = []

abbrev pub uses_of_event : View → Event → List NameUse
uses_of_event view (Import name scope) = use_of name (look_up view Elsewhere name)
uses_of_event view (Export name) = use_of_declaration name (here view Declared name)
uses_of_event view (Use name context) = use_of name (look_up view context name)
uses_of_event view (Select name member context) = use_of name (look_up view context name) ++ uses_of_member view member (look_up view context name)
uses_of_event view (Body name kind scope) = use_of_declaration name (awaited view kind name)
uses_of_event view other = []

-- each used name with its declaration, or none for a predefined name, in the order of the events
unfoldable pub uses_of : (past : List Event) → List NameUse
uses_of [] = []
uses_of (event ∷ past) = uses_of past ++ uses_of_event (view_of past) event
