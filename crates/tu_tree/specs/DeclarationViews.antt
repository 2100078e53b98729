-- Each type of the tree of a declaration, as the rule that it stands for.
use Rattle.std.specs.Prelude.{Bool, List, Option, Some, None}
use Rattle.grammar.specs.Description.{Description, rule}
use Rattle.grammar.specs.Tree.{n-token, n-empty, n-sequence, n-left, n-right}
use Rattle.tu_token.specs.declared.class.Class.TheVariants.{Name, SignAssign, SignColon, WordVar}
use Rattle.tu_token.specs.Rules.{Rule, ◌⨟◌, maybe, t, body, r-const, r-var, r-type, r-names, r-start, r-bind, r-binding, r-spec, r-path}
use Rattle.tu_token.specs.Syntax.{Of}
use Rattle.tu_expr.specs.declared.leaf.Leaf.{Leaf}
use Rattle.tu_expr.specs.Leaves.{leaf_view}
use Rattle.tu_expr.specs.Parts.{Part, listing}
use Rattle.tu_tree.specs.declared.declaration.VarForm.{VarForm}
use Rattle.tu_tree.specs.declared.declaration.VarForm.TheVariants as var
use Rattle.tu_tree.specs.declared.declaration.StartForm.{StartForm}
use Rattle.tu_tree.specs.declared.declaration.StartForm.TheVariants as start
use Rattle.tu_tree.specs.Parts.{flag}

-- a type behind a colon, and a start behind `:=`
abbrev pub typed : Description Rule
typed = t SignColon ⨟ rule r-spec

abbrev pub started : Description Rule
started = t SignAssign ⨟ rule r-start

abbrev pub typed_view : Option (Of r-spec) → Part (maybe typed)
typed_view None = n-right n-empty
typed_view (Some spec) = n-left (n-sequence n-token spec)

abbrev pub started_view : Option (Of r-start) → Part (maybe started)
started_view None = n-right n-empty
started_view (Some start) = n-left (n-sequence n-token start)

abbrev pub const_view : Leaf → Option (Of r-spec) → Of r-start → Part (body r-const)
const_view name spec start = n-sequence n-token (n-sequence (leaf_view Name name) (n-sequence (typed_view spec) (n-sequence n-token start)))

abbrev pub var_view : Of r-names → VarForm → Part (body r-var)
var_view names (var.Collection spec) = n-sequence n-token (n-sequence names (n-left (n-sequence n-token (n-left (n-sequence n-token (n-sequence n-token spec))))))
var_view names (var.Typed spec start) = n-sequence n-token (n-sequence names (n-left (n-sequence n-token (n-right (n-sequence spec (started_view start))))))
var_view names (var.Started value) = n-sequence n-token (n-sequence names (n-right (n-sequence n-token value)))

abbrev pub type_view : Leaf → Of r-spec → Part (body r-type)
type_view name spec = n-sequence n-token (n-sequence (leaf_view Name name) (n-sequence n-token spec))

abbrev pub start_view : StartForm → Part (body r-start)
start_view (start.Value value) = n-left value
start_view (start.Init first more) = n-right (n-sequence n-token (n-sequence n-token (n-sequence (listing r-start first more) n-token)))

abbrev pub bind_view : Of r-binding → List (Of r-binding) → Part (body r-bind)
bind_view first more = n-sequence n-token (listing r-binding first more)

abbrev pub binding_view : Bool → Leaf → Of r-path → Part (body r-binding)
binding_view is_var name path = n-sequence (flag WordVar is_var) (n-sequence (leaf_view Name name) (n-sequence n-token path))
