-- Declarations of constants, variables and types.
use Rattle.std.specs.Prelude.{ℕ, ◌+◌, ◌==◌, Bool, true, false, not, ◌&&◌, ◌||◌, List, [], ◌∷◌, ◌++◌, map, length, max, nat_le, int_le, Some, None, if◌then◌else◌}
use Rattle.std.specs.List.{list_any}
use Rattle.grammar.specs.Tree.{Mark}
use Rattle.tu_core.specs.declared.names.At.{At}
use Rattle.tu_core.specs.declared.names.Variable.{Variable}
use Rattle.tu_core.specs.declared.names.Variable.TheVariants.{Global, Local}
use Rattle.tu_core.specs.Core.{Scalar, Scalars, NoScalar, AndScalar, Declaration, Constant as ConstantDeclaration, Variables, Started, Arrays, Collections, Mention, Statement, Path, Block, Empty, Then, Declare, Bind}
use Rattle.tu_token.specs.Rules.{r-const, r-var, r-type, maybe}
use Rattle.tu_token.specs.Syntax.{Of}
use Rattle.tu_expr.specs.Parts.{Part, mark_of}
use Rattle.tu_tree.specs.DeclarationViews.{started}
use Rattle.tu_tree.specs.Forms.{Present, Absent, Behind, ConstDeclaration, CollectionDeclaration, TypedDeclaration, StartedDeclaration, TypeDeclaration}
use Rattle.tu_type_base.specs.declared.fault.FaultKind.TheVariants.{Misplaced, Mismatch, TooLarge}
use Rattle.tu_type_base.specs.Checked.{Checked, Good, fault, ◌⊳◌, asks}
use Rattle.tu_type_constants.specs.declared.constant.Constant.{Constant}
use Rattle.tu_type_constants.specs.declared.constant.Constant.TheVariants.{NoConstant, Is, IsText}
use Rattle.tu_type_table.specs.declared.types.TypeForm.{TypeForm}
use Rattle.tu_type_table.specs.declared.types.TypeForm.TheVariants.{PointerTo, String}
use Rattle.tu_type_table.specs.Types.{bare_of, span_of, passes, most_parts, numbered_opaque, int, string}
use Rattle.tu_type_operands.specs.declared.kind.Kind.{Kind}
use Rattle.tu_type_operands.specs.declared.kind.Kind.TheVariants.{Whole, AnyText, AnyArray}
use Rattle.tu_type_operands.specs.Operands.{at_mark, index_of}
use Rattle.tu_type_operands.specs.declared.names.Entity.TheVariants.{Holds, TypeName, CollectionName}
use Rattle.tu_type_operands.specs.declared.state.Owner.{Owner}
use Rattle.tu_type_operands.specs.declared.state.Owner.TheVariants.{OfMain}
use Rattle.tu_type_operands.specs.declared.state.State.{State}
use Rattle.tu_type_operands.specs.Names.{form_of, with_entity, with_local, next_local, with_global, global_name, local_name, kind_words}
use Rattle.tu_type_parts.specs.Expressions.{expr}
use Rattle.tu_type_parts.specs.Ranges.{with_type}
use Rattle.tu_type_parts.specs.Specs.{ForVariable, Named, name_at, names_of, Written, spec, whole_spec}
use Rattle.tu_type_parts.specs.Starts.{Begun, Plain, Built, start, fitted}

-- What stands in a block, one behind the other. What is declared or bound has the rest of the block as its scope.
pub data Piece : Type 0 where
  OfStatement : Statement → Piece
  OfDeclaration : At → Declaration → Piece
  OfBinding : At → (name : ℕ) → (is_var : Bool) → Path → Piece

abbrev pub block_of : List Piece → Block
block_of [] = Empty
block_of (OfStatement x ∷ more) = Then x (block_of more)
block_of (OfDeclaration at x ∷ more) = Declare at x (block_of more)
block_of (OfBinding at name is_var path ∷ more) = Bind at name is_var path (block_of more)

-- the collections that the types of a declaration name, and the state without them
abbrev pub mentions_of : List (At × ℕ) → List Piece
mentions_of [] = []
mentions_of (x ∷ more) = OfDeclaration x.0 (Mention x.1) ∷ mentions_of more

abbrev pub with_mentions : State → List Piece → State × List Piece
with_mentions s pieces = (record s { mentions = [] }, mentions_of s.mentions ++ pieces)

abbrev pub is_main : Owner → Bool
is_main OfMain = true
is_main owner = false

-- The words of a type that may pass the limit: of an array with run-time bounds those of its component too.
abbrev pub own_words : State → Kind → ℕ
own_words s (AnyArray indexes component) = max (kind_words s (AnyArray indexes component)) (kind_words s (Whole component))
own_words s kind = kind_words s kind

-- too many index types in the one list of an array with run-time bounds
abbrev pub is_wide : Kind → Bool
is_wide (AnyArray indexes component) = not (nat_le (length indexes) most_parts)
is_wide kind = false

abbrev pub is_too_large : State → Kind → Bool
is_too_large s kind = passes (own_words s kind) || is_wide kind

-- the globals with one of a kind more
abbrev pub brings_past : State → Kind → Bool
brings_past s kind = is_main s.around.owner && passes (s.global_words + kind_words s kind)

-- a name of a variable or constant with a number of its own: a global of the program and its modules, a local of a subprogram
abbrev pub with_name : State → Kind → State × Variable
with_name s kind = elim (is_main s.around.owner) [
  | true ↦ (with_global s (global_name s kind) (kind_words s kind), Global (length s.globals))
  | false ↦ (with_local s (local_name s kind), Local (next_local s))
]

-- a declared name, which is not too large and does not bring the globals past their limit
abbrev pub declared : Kind → (is_variable : Bool) → Constant → State → Named → Checked (State × Variable)
declared kind is_variable constant s x =
    asks (not (is_too_large s kind || brings_past s kind)) TooLarge x.at ⊳ λ _.
    let z = with_name s kind in
    Good (with_entity z.0 x.at.start (Holds (record { variable = z.1; kind = kind; is_variable = is_variable; through = None; constant = constant })), z.1)

abbrev pub declared_all : Kind → State → List Named → Checked (State × List Variable)
declared_all kind s [] = Good (s, [])
declared_all kind s (x ∷ more) = declared kind true NoConstant s x ⊳ λ a. declared_all kind a.0 more ⊳ λ b. Good (b.0, a.1 ∷ b.1)

-- ---- constants

-- A constant has a constant value where its start has one that its type takes.
abbrev pub within : State → (type : ℕ) → TypeForm → Constant → Constant
within s n (String most) (IsText bytes) = if nat_le (length bytes) most then IsText bytes else NoConstant
within s n form (Is z) = if int_le (span_of s.types n).low z && int_le z (span_of s.types n).high then Is z else NoConstant
within s n form x = NoConstant

abbrev pub constant_of : State → (type : ℕ) → Begun → Constant
constant_of s n (Plain m a) = within s n (form_of s n) a.constant
constant_of s n (Built x) = NoConstant

-- the type of a name that is declared without one: that of its start, where `string (*)` counts as `string`
abbrev pub type_of_start : Mark → Kind → Checked ℕ
type_of_start m (Whole n) = Good n
type_of_start m AnyText = Good string
type_of_start m (AnyArray indexes component) = fault Mismatch m

abbrev pub constant_declared : (m : Mark) → Named → State → (type : ℕ) → Begun → Checked (State × List Piece)
constant_declared m x s n begun =
    declared (Whole n) false (constant_of s n begun) s x ⊳ λ z. fitted s n begun ⊳ λ begin.
    Good (with_mentions z.0 (OfDeclaration (at_mark m) (ConstantDeclaration (record { name = z.1; start = begin })) ∷ []))

abbrev pub constant_started : (m : Mark) → Named → State → Begun → Checked (State × List Piece)
constant_started m x s (Plain l a) = type_of_start l a.declared ⊳ λ n. constant_declared m x s n (Plain l a)
constant_started m x s (Built begin) = fault Mismatch m

-- an `init (..)` tells no type
abbrev pub constant_by : (m : Mark) → Named → (start : Mark) → State → Begun → Checked (State × List Piece)
constant_by m x l s (Plain n a) = constant_started m x s (Plain n a)
constant_by m x l s (Built begin) = fault Mismatch l

abbrev pub constant : State → Of r-const → Checked (State × List Piece)
constant s (ConstDeclaration m _ name Absent _ x) = start s None x ⊳ constant_by m (name_at name) (mark_of x) s
constant s (ConstDeclaration m _ name (Present (Behind _ type)) _ x) =
    whole_spec s type ⊳ λ z. start z.0 (Some z.1) x ⊳ constant_declared m (name_at name) z.0 z.1

-- ---- variables

abbrev pub scalars_of : List Scalar → Scalars
scalars_of [] = NoScalar
scalars_of (e ∷ more) = AndScalar e (scalars_of more)

-- names without a start: of a type, or an array whose bounds are evaluated
abbrev pub variables_of : State → Written → List Variable → Declaration
variables_of s x names = elim x.kind [
  | Whole n ↦ Variables names (bare_of s.types n)
  | AnyText ↦ Variables names (bare_of s.types string)
  | AnyArray indexes component ↦ Arrays names (map (index_of s.types) indexes) (bare_of s.types component) (scalars_of x.uppers)
]

abbrev pub variables : (m : Mark) → List Named → State → Written → Checked (State × List Piece)
variables m names s x = declared_all x.kind s names ⊳ λ z. Good (with_mentions z.0 (OfDeclaration (at_mark m) (variables_of z.0 x z.1) ∷ []))

abbrev pub variables_started : (m : Mark) → List Named → State → (type : ℕ) → Begun → Checked (State × List Piece)
variables_started m names s n begun =
    declared_all (Whole n) s names ⊳ λ z. fitted s n begun ⊳ λ begin. Good (with_mentions z.0 (OfDeclaration (at_mark m) (Started z.1 (bare_of s.types n) begin) ∷ []))

-- An array with run-time bounds has no start.
abbrev pub variables_typed : (m : Mark) → List Named → Part (maybe started) → State × Written → Checked (State × List Piece)
variables_typed m names Absent z = variables m names z.0 z.1
variables_typed m names (Present (Behind _ x)) z = elim z.1.kind [
  | Whole n ↦ start z.0 (Some n) x ⊳ variables_started m names z.0 n
  | AnyText ↦ fault Mismatch (mark_of x)
  | AnyArray indexes component ↦ start z.0 None x ⊳ λ _. declared_all z.1.kind z.0 names ⊳ λ _. fault Mismatch (mark_of x)
]

-- ---- collections

-- The names stand for their collections in the type of their elements.
abbrev pub collections_from : State → List Named → State × List ℕ
collections_from s [] = (s, [])
collections_from s (x ∷ more) =
    let new = record (with_entity s x.at.start (CollectionName (length s.elements))) { elements = s.elements ++ int ∷ [] } in
    let z = collections_from ((with_type new (PointerTo (length s.elements))).0) more in
    (z.0, length s.elements ∷ z.1)

abbrev pub elements_of : List ℕ → (type : ℕ) → List ℕ
elements_of [] n = []
elements_of (c ∷ more) n = n ∷ elements_of more n

abbrev pub none_too_large : State → (type : ℕ) → List Named → Checked (Unit {0})
none_too_large s n [] = Good tt
none_too_large s n (x ∷ more) = asks (not (is_too_large s (Whole n))) TooLarge x.at ⊳ λ _. none_too_large s n more

abbrev pub collections : (m : Mark) → List Named → (before : State) → (numbers : List ℕ) → State × ℕ → Checked (State × List Piece)
collections m names before numbers z =
    none_too_large z.0 z.1 names ⊳ λ _.
    Good (with_mentions (record z.0 { elements = before.elements ++ elements_of numbers z.1 }) (OfDeclaration (at_mark m) (Collections numbers) ∷ []))

-- A collection stands in no subprogram and no block.
abbrev pub variable : (is_in_block : Bool) → State → Of r-var → Checked (State × List Piece)
variable is_in_block s (CollectionDeclaration m _ names _ _ _ type) =
    asks (not is_in_block) Misplaced m ⊳ λ _. let z = collections_from s (names_of names) in whole_spec z.0 type ⊳ collections m (names_of names) s z.1
variable is_in_block s (TypedDeclaration m _ names _ type x) = spec ForVariable s type ⊳ variables_typed m (names_of names) x
variable is_in_block s (StartedDeclaration m _ names _ e) = expr s e ⊳ λ a. type_of_start (mark_of e) a.declared ⊳ λ n. variables_started m (names_of names) s n (Plain (mark_of e) a)

-- ---- types

abbrev pub is_among : List ℕ → ℕ → Bool
is_among ns n = list_any (λ other. other == n) ns

-- A type that its module exports as opaque is another type outside.
abbrev pub type_named : State → Named → (type : ℕ) → State
type_named s x n = elim (is_among s.own.opaques x.at.start) [
  | false ↦ with_entity s x.at.start (TypeName n)
  | true ↦ (let z = numbered_opaque s.types s.around.home x.at.start n in with_entity (record s { types = z.0 }) x.at.start (TypeName z.1))
]

abbrev pub type : State → Of r-type → Checked (State × List Piece)
type s (TypeDeclaration m _ name _ x) =
    whole_spec s x ⊳ λ z. asks (not (is_too_large z.0 (Whole z.1))) TooLarge (name_at name).at ⊳ λ _. Good (with_mentions (type_named z.0 (name_at name) z.1) [])
