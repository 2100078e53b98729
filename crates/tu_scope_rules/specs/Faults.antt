-- The faults of a text: each event has one at most, and that depends on what came before it alone.
use Rattle.std.specs.Prelude.{List, [], ◌∷◌, Bool, Option, Some, None, if◌then◌else◌, is_some}
use Rattle.std.specs.Str.{bytes_eq}
use Rattle.tu_scope_rules.specs.Names.{NameAt}
use Rattle.tu_scope_rules.specs.Views.{View, look_up, here, awaited, body_namespace, view_of}
use Rattle.tu_scope_rules.specs.declared.event.Context.TheVariants.{Elsewhere}
use Rattle.tu_scope_rules.specs.declared.event.Entity.{Entity}
use Rattle.tu_scope_rules.specs.declared.event.Entity.TheVariants.{Module}
use Rattle.tu_scope_rules.specs.declared.event.Declaration.{Declaration}
use Rattle.tu_scope_rules.specs.declared.event.Event.{Event}
use Rattle.tu_scope_rules.specs.declared.event.Event.TheVariants.{Declare, Member as IsMember, Import, Export, Use, Select, Body, Await, End}
use Rattle.tu_scope_rules.specs.declared.table.Namespace.TheVariants.{Declared, Member, Exported}
use Rattle.tu_scope_rules.specs.declared.search.Found.{Found}
use Rattle.tu_scope_rules.specs.declared.search.Found.TheVariants.{Known, Hidden, Nowhere}
use Rattle.tu_scope_rules.specs.declared.fault.FaultKind.{FaultKind}
use Rattle.tu_scope_rules.specs.declared.fault.FaultKind.TheVariants.{Unknown, NotImported, NotExported, Twice, BodyMissing, WrongEnd}
use Rattle.tu_scope_rules.specs.declared.fault.Fault.{Fault}

abbrev pub fault_at : FaultKind → NameAt → Option Fault
fault_at kind name = Some (record { kind = kind; start = name.start; line = name.line })

abbrev pub fault_if : Bool → FaultKind → NameAt → Option Fault
fault_if is_fault kind name = if is_fault then fault_at kind name else None

abbrev pub fault_unless : Bool → FaultKind → NameAt → Option Fault
fault_unless is_right kind name = if is_right then None else fault_at kind name

abbrev pub fault_of_use : NameAt → Found → Option Fault
fault_of_use name Nowhere = fault_at Unknown name
fault_of_use name Hidden = fault_at NotImported name
fault_of_use name other = None

abbrev pub fault_of_member : (name member : NameAt) → (declared exported : Option Declaration) → Option Fault
fault_of_member name member None exported = fault_at Unknown member
fault_of_member name member (Some declaration) None = fault_at NotExported name
fault_of_member name member (Some declaration) (Some same) = None

-- Behind a module's name stands what it declares and exports. Behind another name stands a field or a value, which its type tells.
abbrev pub fault_in : View → (name member : NameAt) → Entity → Option Fault
fault_in view name member (Module scope) = fault_of_member name member (view.at scope Declared member.text) (view.at scope Exported member.text)
fault_in view name member other = None

abbrev pub fault_of_select : View → (name member : NameAt) → Found → Option Fault
fault_of_select view name member (Known declaration) = fault_in view name member declaration.entity
fault_of_select view name member other = fault_of_use name other

abbrev pub fault_of_body : NameAt → (awaited declared : Option Declaration) → Option Fault
fault_of_body name (Some forward) declared = None
fault_of_body name None (Some declaration) = fault_at Twice name
fault_of_body name None None = fault_at Unknown name

abbrev pub fault_of : View → Event → Option Fault
fault_of view (Declare name declaration) = fault_if (is_some (here view Declared name)) Twice name
fault_of view (IsMember name declaration) = fault_if (is_some (here view Member name)) Twice name
fault_of view (Import name scope) = fault_of_use name (look_up view Elsewhere name)
fault_of view (Export name) = fault_unless (is_some (here view Declared name)) Unknown name
fault_of view (Use name context) = fault_of_use name (look_up view context name)
fault_of view (Select name member context) = fault_of_select view name member (look_up view context name)
fault_of view (Body name kind scope) = fault_of_body name (awaited view kind name) (here view Declared name)
fault_of view (Await name kind) = fault_unless (is_some (here view (body_namespace kind) name)) BodyMissing name
fault_of view (End name opened) = fault_unless (bytes_eq name.text opened.text) WrongEnd name
fault_of view other = None

abbrev pub with_fault : Option Fault → List Fault → List Fault
with_fault None faults = faults
with_fault (Some fault) faults = fault ∷ faults

-- all faults of a text, the latest first
unfoldable pub faults_of : (past : List Event) → List Fault
faults_of [] = []
faults_of (event ∷ past) = with_fault (fault_of (view_of past) event) (faults_of past)
