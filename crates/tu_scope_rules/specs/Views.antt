-- What a place in a text sees, over the list of what the text does with names. A text that was gone through is given backwards, the latest event first.
use Rattle.std.specs.Prelude.{ℕ, List, [], ◌∷◌, Option, Some, None}
use Rattle.tu_scope_rules.specs.Names.{NameAt}
use Rattle.tu_scope_rules.specs.Entries.{put_at}
use Rattle.tu_scope_rules.specs.Search.{search}
use Rattle.tu_scope_rules.specs.declared.event.Visibility.TheVariants.{All}
use Rattle.tu_scope_rules.specs.declared.event.Context.{Context}
use Rattle.tu_scope_rules.specs.declared.event.Context.TheVariants.{Elsewhere}
use Rattle.tu_scope_rules.specs.declared.event.BodyKind.{BodyKind}
use Rattle.tu_scope_rules.specs.declared.event.BodyKind.TheVariants.{Procedure, Function}
use Rattle.tu_scope_rules.specs.declared.event.Entity.{Entity}
use Rattle.tu_scope_rules.specs.declared.event.Entity.TheVariants.{Plain, Subprogram}
use Rattle.tu_scope_rules.specs.declared.event.Declaration.{Declaration}
use Rattle.tu_scope_rules.specs.declared.event.Event.{Event}
use Rattle.tu_scope_rules.specs.declared.event.Event.TheVariants.{Open, Close, Declare, Member as IsMember, Own, Early as IsEarly, Outcome as IsOutcome, Import, Export, Forward, Body}
use Rattle.tu_scope_rules.specs.declared.table.Namespace.{Namespace}
use Rattle.tu_scope_rules.specs.declared.table.Namespace.TheVariants.{Declared, Member, Imported, Exported, Early, Outcome, ForwardProcedure, ForwardFunction, BodyProcedure, BodyFunction}
use Rattle.tu_scope_rules.specs.declared.search.Scope.{Scope}
use Rattle.tu_scope_rules.specs.declared.search.Found.{Found}
use Rattle.tu_scope_rules.specs.declared.search.Found.TheVariants.{Known}

-- the open scopes, the innermost first, and the latest declaration that is recorded under a name of a namespace in a scope
pub record View : Type 0 where
  pub scopes : List Scope
  pub at : (scope : ℕ) → Namespace → (name : List ℕ) → Option Declaration

-- the scope of the program itself
abbrev pub program : Scope
program = record { number = 0; visibility = All }

abbrev pub innermost : List Scope → ℕ
innermost [] = 0
innermost (scope ∷ scopes) = scope.number

abbrev pub around : List Scope → List Scope
around [] = []
around (scope ∷ scopes) = scopes

abbrev pub forward_namespace : BodyKind → Namespace
forward_namespace Procedure = ForwardProcedure
forward_namespace Function = ForwardFunction

abbrev pub body_namespace : BodyKind → Namespace
body_namespace Procedure = BodyProcedure
body_namespace Function = BodyFunction

-- what a name stands for where it is used
abbrev pub look_up : View → Context → NameAt → Found
look_up view context name = search view.at name.text context view.scopes

-- what is recorded in the innermost scope itself
abbrev pub here : View → Namespace → NameAt → Option Declaration
here view namespace name = view.at (innermost view.scopes) namespace name.text

-- the forward whose first body of its kind this is
abbrev pub awaited_by : (body forward : Option Declaration) → Option Declaration
awaited_by None forward = forward
awaited_by (Some other) forward = None

abbrev pub awaited : View → BodyKind → NameAt → Option Declaration
awaited view kind name = awaited_by (here view (body_namespace kind) name) (here view (forward_namespace kind) name)

-- ---- what an event records

pub record Put : Type 0 where
  pub scope : ℕ
  pub namespace : Namespace
  pub name : List ℕ
  pub declaration : Declaration

abbrev pub put_any : (scope : ℕ) → Namespace → NameAt → Option Declaration → Option Put
put_any scope namespace name None = None
put_any scope namespace name (Some declaration) = Some (record { scope = scope; namespace = namespace; name = name.text; declaration = declaration })

abbrev pub declaration_found : Found → Option Declaration
declaration_found (Known declaration) = Some declaration
declaration_found other = None

-- An import list names what is visible where it stands, and an export list what is declared in the scope itself.
abbrev pub put_of : View → Event → Option Put
put_of view (Declare name declaration) = put_any (innermost view.scopes) Declared name (Some declaration)
put_of view (IsMember name declaration) = put_any (innermost view.scopes) Member name (Some declaration)
put_of view (Own name declaration) = put_any (innermost view.scopes) Imported name (Some declaration)
put_of view (IsEarly name declaration) = put_any (innermost view.scopes) Early name (Some declaration)
put_of view (IsOutcome name declaration) = put_any (innermost view.scopes) Outcome name (Some declaration)
put_of view (Import name scope) = put_any scope Imported name (declaration_found (look_up view Elsewhere name))
put_of view (Export name) = put_any (innermost view.scopes) Exported name (here view Declared name)
put_of view (Forward name kind declaration) = put_any (innermost view.scopes) (forward_namespace kind) name (Some declaration)
put_of view (Body name kind scope) = put_any (innermost view.scopes) (body_namespace kind) name (Some (record { number = scope; entity = Plain }))
put_of view other = None

-- ---- which scopes are open behind it

abbrev pub scope_of : Entity → (number : ℕ) → Scope
scope_of (Subprogram its visibility) number = record { number = its; visibility = visibility }
scope_of other number = record { number = number; visibility = All }

-- A body goes on in the scope of its forward, with its formals and its list; one without has a scope of its own.
abbrev pub body_scope : (forward : Option Declaration) → (number : ℕ) → Scope
body_scope None number = record { number = number; visibility = All }
body_scope (Some declaration) number = scope_of declaration.entity number

abbrev pub scopes_behind : View → Event → List Scope
scopes_behind view (Open number visibility) = record { number = number; visibility = visibility } ∷ view.scopes
scopes_behind view Close = around view.scopes
scopes_behind view (Body name kind number) = body_scope (awaited view kind name) number ∷ view.scopes
scopes_behind view other = view.scopes

-- ---- the view

abbrev pub recorded : View → Option Put → (scope : ℕ) → Namespace → (name : List ℕ) → Option Declaration
recorded view None = view.at
recorded view (Some put) = put_at view.at put.scope put.namespace put.name put.declaration

abbrev pub view_behind : View → Event → View
view_behind view event = record { scopes = scopes_behind view event; at = recorded view (put_of view event) }

-- steps of the code: a declaration is recorded, a scope begins, and it ends
abbrev pub with_declaration : View → (scope : ℕ) → Namespace → NameAt → Declaration → View
with_declaration view scope namespace name declaration = record { scopes = view.scopes; at = put_at view.at scope namespace name.text declaration }

abbrev pub with_scope : View → Scope → View
with_scope view scope = record { scopes = scope ∷ view.scopes; at = view.at }

abbrev pub without_scope : View → View
without_scope view = record { scopes = around view.scopes; at = view.at }

abbrev pub start : View
start = record { scopes = program ∷ []; at = λ scope namespace name. None }

-- the latest event is looked at first, and where it records nothing under a name, what came before it
unfoldable pub view_of : (past : List Event) → View
view_of [] = start
view_of (event ∷ past) = view_behind (view_of past) event
