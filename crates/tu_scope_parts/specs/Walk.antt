-- What a tree does with names, as a list of events. A part without a rule of its own here does what its parts do, in their order.
-- A declaration's number is the place where its name begins, and a scope's number that of the node that opens it; the program's is 0.
use Rattle.std.specs.Prelude.{ℕ, List, [], ◌∷◌, ◌++◌}
use Rattle.grammar.specs.Description.{Description, rule}
use Rattle.grammar.specs.Tree.{n-token, n-text, n-empty, n-sequence, n-left, n-right, n-none, n-more, n-rule, n-span, n-short}
use Rattle.tu_token.specs.declared.class.Class.TheVariants.{Name}
use Rattle.tu_token.specs.Rules.{Rule, many, maybe, t, listed, r-names, r-imp, r-import, r-exp, r-export, r-formal, r-formals, r-head, r-item, r-subprogram, r-program, r-path, r-name, r-base, r-const, r-var, r-type, r-binding, r-given, r-field, r-block, r-statement, r-module, r-rest, r-handler, r-ending}
use Rattle.tu_token.specs.Syntax.{Of}
use Rattle.tu_expr.specs.Parts.{Part, further, mark_of, text_of, start_of, line_of}
use Rattle.tu_expr.specs.Views.{steps}
use Rattle.tu_tree.specs.Parts.{separated}
use Rattle.tu_tree.specs.TypeViews.{named}
use Rattle.tu_tree.specs.SubprogramViews.{kinds}
use Rattle.tu_tree.specs.ProgramViews.{module_part}
use Rattle.tu_tree.specs.Forms.{Present, Absent, More, NoMore, Behind, Listed as ListOf, Separated, Program, ItemSubprogram, Path, FieldStep, NameOf, PointerType, ConstDeclaration, CollectionDeclaration, TypedDeclaration, StartedDeclaration, TypeDeclaration, Names, Binding, EnumType, RecordType, UnionType, Field, Block, For, Given, WholeSubprogram, ForwardSubprogram, BodySubprogram, ProcedureKind, FunctionKind, ProcedureHead, FunctionHead, Formals, Formal, Handler, Rest, Ending, BracketedImport, PlainImport, ImportItem, BracketedExport, PlainExport, ExportItem, Module, ModuleSubprogram}
use Rattle.tu_scope_rules.specs.Names.{NameAt}
use Rattle.tu_scope_rules.specs.declared.event.Visibility.{Visibility}
use Rattle.tu_scope_rules.specs.declared.event.Visibility.TheVariants.{All, Listed}
use Rattle.tu_scope_rules.specs.declared.event.Context.{Context}
use Rattle.tu_scope_rules.specs.declared.event.Context.TheVariants.{Elsewhere, AfterPointer, InPost}
use Rattle.tu_scope_rules.specs.declared.event.BodyKind.{BodyKind}
use Rattle.tu_scope_rules.specs.declared.event.BodyKind.TheVariants.{Procedure, Function}
use Rattle.tu_scope_rules.specs.declared.event.Entity.TheVariants.{Plain, Module as ModuleEntity, Subprogram}
use Rattle.tu_scope_rules.specs.declared.event.Declaration.{Declaration}
use Rattle.tu_scope_rules.specs.declared.event.Event.{Event}
use Rattle.tu_scope_rules.specs.declared.event.Event.TheVariants.{Open, Close, Declare, Member, Own, Early, Outcome, Import, Export, Use, Select, Forward, Body, Await, End}

-- ---- names

abbrev pub name_at : Part (t Name) → NameAt
name_at x = record { text = text_of x; start = start_of x; line = line_of x }

abbrev pub plain : Part (t Name) → Declaration
plain x = record { number = start_of x; entity = Plain }

abbrev pub declared : Part (t Name) → Event
declared x = Declare (name_at x) (plain x)

abbrev pub member : Part (t Name) → Event
member x = Member (name_at x) (plain x)

abbrev pub early : Part (t Name) → Event
early x = Early (name_at x) (plain x)

abbrev pub outcome : Part (t Name) → Event
outcome x = Outcome (name_at x) (plain x)

-- an event for each of some names
abbrev pub each_more : (Part (t Name) → Event) → Part (many named) → List Event
each_more event NoMore = []
each_more event (More (Behind _ name) more) = event name ∷ each_more event more

abbrev pub each : (Part (t Name) → Event) → Of r-names → List Event
each event (Names m first more) = event first ∷ each_more event more

abbrev pub each_maybe : (Part (t Name) → Event) → Part (maybe (t Name)) → List Event
each_maybe event Absent = []
each_maybe event (Present name) = event name ∷ []

-- a path's root, with the name behind its dot
abbrev pub root_use : Context → Part (t Name) → Part (many steps) → Event
root_use context root (More (FieldStep _ second) more) = Select (name_at root) (name_at second) context
root_use context root other = Use (name_at root) context

-- the name of a type
abbrev pub name_use : Context → Of r-name → Event
name_use context (NameOf m first Absent) = Use (name_at first) context
name_use context (NameOf m first (Present (Behind _ second))) = Select (name_at first) (name_at second) context

-- ---- import and export lists

abbrev pub import_item : (scope : ℕ) → Of r-imp → Event
import_item scope (ImportItem m var name) = Import (name_at name) scope

abbrev pub imports_more : (scope : ℕ) → Part (many (further r-imp)) → List Event
imports_more scope NoMore = []
imports_more scope (More (Behind _ item) more) = import_item scope item ∷ imports_more scope more

abbrev pub imports_listed : (scope : ℕ) → Part (listed r-imp) → List Event
imports_listed scope (ListOf first more) = import_item scope first ∷ imports_more scope more

abbrev pub any_imports_listed : (scope : ℕ) → Part (maybe (listed r-imp)) → List Event
any_imports_listed scope Absent = []
any_imports_listed scope (Present items) = imports_listed scope items

abbrev pub imports : (scope : ℕ) → Part (maybe (rule r-import)) → List Event
imports scope Absent = []
imports scope (Present (PlainImport m _ items)) = imports_listed scope items
imports scope (Present (BracketedImport m _ _ items _)) = any_imports_listed scope items

abbrev pub visibility : Part (maybe (rule r-import)) → Visibility
visibility Absent = All
visibility (Present list) = Listed

abbrev pub export_item : Of r-exp → Event
export_item (ExportItem m opaque name) = Export (name_at name)

abbrev pub exports_more : Part (many (further r-exp)) → List Event
exports_more NoMore = []
exports_more (More (Behind _ item) more) = export_item item ∷ exports_more more

abbrev pub exports_listed : Part (listed r-exp) → List Event
exports_listed (ListOf first more) = export_item first ∷ exports_more more

abbrev pub any_exports_listed : Part (maybe (listed r-exp)) → List Event
any_exports_listed Absent = []
any_exports_listed (Present items) = exports_listed items

abbrev pub exports : Part (maybe (rule r-export)) → List Event
exports Absent = []
exports (Present (PlainExport m _ items)) = exports_listed items
exports (Present (BracketedExport m _ _ items _)) = any_exports_listed items

-- ---- heads

abbrev pub declared_formal : Of r-formal → List Event
declared_formal (Formal m var names _ spec) = each declared names

abbrev pub formals_more : Part (many (further r-formal)) → List Event
formals_more NoMore = []
formals_more (More (Behind _ x) more) = declared_formal x ++ formals_more more

abbrev pub formals_listed : Part (maybe (listed r-formal)) → List Event
formals_listed Absent = []
formals_listed (Present (ListOf first more)) = declared_formal first ++ formals_more more

abbrev pub declared_formals : Part (maybe (rule r-formals)) → List Event
declared_formals Absent = []
declared_formals (Present (Formals m _ items _)) = formals_listed items

abbrev pub head_name : Of r-head → Part (t Name)
head_name (ProcedureHead m _ name items) = name
head_name (FunctionHead m _ name items result _ spec) = name

abbrev pub head_kind : Of r-head → BodyKind
head_kind (ProcedureHead m _ name items) = Procedure
head_kind (FunctionHead m _ name items result _ spec) = Function

-- the formals, and the result's name, which `post` alone sees
abbrev pub head_names : Of r-head → List Event
head_names (ProcedureHead m _ name items) = declared_formals items
head_names (FunctionHead m _ name items result _ spec) = each_maybe outcome result ++ declared_formals items

-- the name behind `end`
abbrev pub end_name : Of r-ending → Part (t Name)
end_name (Ending m _ name) = name

abbrev pub rest_end : Of r-rest → Part (t Name)
rest_end (Rest m pre givens post handler block ending) = end_name ending

abbrev pub subprogram : (scope : ℕ) → Part (t Name) → Visibility → Declaration
subprogram scope name visibility = record { number = start_of name; entity = Subprogram scope visibility }

-- A subprogram is declared behind its head, and its scope begins with its own name, its formals and its result's name.
abbrev pub begun : (scope : ℕ) → Of r-head → Visibility → List Event
begun scope head visibility =
    let name = head_name head in
    let declaration = subprogram scope name visibility in
    Declare (name_at name) declaration ∷ Open scope visibility ∷ Own (name_at name) declaration ∷ head_names head

-- behind the head of a forward its scope ends, until its body
abbrev pub forwarded : (scope : ℕ) → Of r-head → Visibility → List Event
forwarded scope head visibility = Close ∷ Forward (name_at (head_name head)) (head_kind head) (subprogram scope (head_name head) visibility) ∷ []

-- the scope ends, and the name behind `end` is that of what was opened
abbrev pub ended : (opened end : Part (t Name)) → List Event
ended opened end = Close ∷ End (name_at end) (name_at opened) ∷ []

abbrev pub kind : Part kinds → BodyKind
kind (ProcedureKind _) = Procedure
kind (FunctionKind _) = Function

-- the forwards of a program or a module, where it ends
abbrev pub awaited : Of r-subprogram → List Event
awaited (ForwardSubprogram m _ head import) = Await (name_at (head_name head)) (head_kind head) ∷ []
awaited other = []

abbrev pub item_awaited : Of r-item → List Event
item_awaited (ItemSubprogram m x) = awaited x
item_awaited other = []

abbrev pub items_awaited : Part (many (separated (rule r-item))) → List Event
items_awaited NoMore = []
items_awaited (More (Separated x _) more) = item_awaited x ++ items_awaited more

abbrev pub part_awaited : Part module_part → List Event
part_awaited (ModuleSubprogram x) = awaited x
part_awaited other = []

abbrev pub parts_awaited : Part (many (separated module_part)) → List Event
parts_awaited NoMore = []
parts_awaited (More (Separated x _) more) = part_awaited x ++ parts_awaited more

abbrev pub module_declared : (scope : ℕ) → Part (t Name) → Event
module_declared scope name = Declare (name_at name) (record { number = start_of name; entity = ModuleEntity scope })

-- a scope that begins with a name, before the block that goes on in it
abbrev pub named_scope : (scope : ℕ) → Part (t Name) → (more : List Event) → List Event
named_scope scope name more = Open scope All ∷ declared name ∷ more ++ Close ∷ []

-- ---- all parts of a tree

abbrev pub events : {d : Description Rule} → Context → Part d → List Event
-- names are used
events {d = rule r-path} context (Path m root more) = root_use context root more ∷ events context more
events {d = rule r-name} context name = name_use Elsewhere name ∷ []
events {d = rule r-base} context (PointerType m _ _ name) = name_use AfterPointer name ∷ []
-- and declared, behind their types and starts
events {d = rule r-const} context (ConstDeclaration m _ name spec _ start) = events Elsewhere spec ++ events Elsewhere start ++ declared name ∷ []
events {d = rule r-var} context (CollectionDeclaration m _ names _ _ _ spec) = Open m.number All ∷ each early names ++ events Elsewhere spec ++ Close ∷ each declared names
events {d = rule r-var} context (TypedDeclaration m _ names _ spec start) = events Elsewhere spec ++ events Elsewhere start ++ each declared names
events {d = rule r-var} context (StartedDeclaration m _ names _ value) = events Elsewhere value ++ each declared names
events {d = rule r-type} context (TypeDeclaration m _ name _ spec) = events Elsewhere spec ++ declared name ∷ []
events {d = rule r-binding} context (Binding m var name _ path) = events Elsewhere path ++ declared name ∷ []
events {d = rule r-given} context (Given m name _ value) = events Elsewhere value ++ declared name ∷ []
-- members of types
events {d = rule r-base} context (EnumType m _ _ names _) = Open m.number All ∷ each member names ++ Close ∷ []
events {d = rule r-base} context (RecordType m _ first more _ _) = Open m.number All ∷ events Elsewhere first ++ events Elsewhere more ++ Close ∷ []
events {d = rule r-base} context (UnionType m _ tag _ range _ variants _ _) = Open m.number All ∷ each_maybe member tag ++ events Elsewhere range ++ events Elsewhere variants ++ Close ∷ []
events {d = rule r-field} context (Field m names _ spec _) = events Elsewhere spec ++ each member names
-- scopes
events {d = rule r-block} context (Block m parts) = Open m.number All ∷ events Elsewhere parts ++ Close ∷ []
-- The index of a `for`, its invariant and the name of a handler are in the scope of the block.
events {d = rule r-statement} context (For m _ _ name _ range invariant block _ _) =
    events Elsewhere range ++ named_scope (mark_of block).number name (events Elsewhere invariant) ++ events Elsewhere block
events {d = rule r-handler} context (Handler m _ _ name _ block _ _) = named_scope (mark_of block).number name [] ++ events Elsewhere block
events {d = rule r-subprogram} context (ForwardSubprogram m _ head import) =
    events Elsewhere head ++ imports m.number import ++ begun m.number head (visibility import) ++ forwarded m.number head (visibility import)
events {d = rule r-subprogram} context (WholeSubprogram m head import rest) =
    events Elsewhere head ++ imports m.number import ++ begun m.number head (visibility import) ++ events Elsewhere rest ++ ended (head_name head) (rest_end rest)
events {d = rule r-subprogram} context (BodySubprogram m _ word name rest) = Body (name_at name) (kind word) m.number ∷ events Elsewhere rest ++ ended name (rest_end rest)
-- The body's block is the scope of the formals too.
events {d = rule r-rest} context (Rest m pre givens post handler (Block n parts) ending) =
    events Elsewhere pre ++ events Elsewhere givens ++ events InPost post ++ events Elsewhere handler ++ events Elsewhere parts
events {d = rule r-module} context (Module m _ name import export parts ending) =
    imports m.number import ++ Open m.number Listed ∷ events Elsewhere parts ++ parts_awaited parts ++ exports export ++ ended name (end_name ending) ++ module_declared m.number name ∷ []
events {d = rule r-program} context (Program m items) = events Elsewhere items ++ items_awaited items
-- the others
events context (n-rule m x) = events context x
events context n-token = []
events context (n-text text start line) = []
events context n-empty = []
events context (n-sequence x y) = events context x ++ events context y
events context (n-left x) = events context x
events context (n-right y) = events context y
events context n-none = []
events context (n-more x more) = events context x ++ events context more
events context (n-span x y) = events context x ++ events context y
events context (n-short x) = events context x
