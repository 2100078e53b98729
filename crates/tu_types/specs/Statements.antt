-- Statements with blocks, and blocks.
use Rattle.std.specs.Prelude.{ℕ, Bool, true, false, List, [], ◌∷◌, ◌++◌, map, Option, Some, None}
use Rattle.grammar.specs.Description.{rule}
use Rattle.grammar.specs.Tree.{Mark}
use Rattle.tu_base.specs.declared.shape.Span.{Span}
use Rattle.tu_core.specs.declared.names.At.{At}
use Rattle.tu_core.specs.declared.names.Variable.TheVariants.{Local}
use Rattle.tu_core.specs.declared.names.LocalName.{LocalName}
use Rattle.tu_core.specs.declared.names.LocalName.TheVariants.{BoundName, BoundText, BoundArray, Counter}
use Rattle.tu_core.specs.declared.claim.Claim.TheVariants.{Asserts, Keeps}
use Rattle.tu_core.specs.Core.{Scalar, Absent as NoneThere, Present as OneThere, Path, ResultOf, Range, FromTo, Through, Test, Plain, Exit as ExitOf, Return as ReturnOf, Check, New as NewOf, Free as FreeOf, Quit as QuitOf, Statement, Simply, If as IfOf, Loop as LoopOf, For as ForOf, Case as CaseOf, Begin as BeginOf, Block, Otherwise, Else, Elsif as ElsifOf, Arms, NoArm, Default, Labelled}
use Rattle.tu_token.specs.declared.class.Class.TheVariants.{WordVar, WordDecreasing}
use Rattle.tu_token.specs.Rules.{r-block, r-bind, r-binding, r-range, r-expr, r-invariant, r-statement, r-elsif, r-arm, many, maybe, t}
use Rattle.tu_token.specs.Syntax.{Of}
use Rattle.tu_expr.specs.Parts.{Part, further, mark_of}
use Rattle.tu_tree.specs.Parts.{separated}
use Rattle.tu_tree.specs.StatementViews.{block_part, elses, simple}
use Rattle.tu_tree.specs.Forms.{Present, Absent, More, NoMore, Behind, Listed, Separated, Block as BlockNode, BlockConst, BlockVar, BlockType, BlockBind, BlockStatement, BindDeclaration, Binding, BoundedRange, NamedRange, Invariant, Assign, CallOf, If, Elsif, Loop, For, Case, Arm, LastArm, Begin, Simple, Exit, ExitWhen, Return, Result, Assert, New, Free, Tag, Put, Get, Open, Close, Quit, QuitWith}
use Rattle.tu_type_base.specs.declared.fault.FaultKind.TheVariants.{Misplaced, Mismatch}
use Rattle.tu_type_base.specs.Checked.{Checked, Good, fault, both, ◌⊳◌, asks}
use Rattle.tu_type_constants.specs.declared.constant.Constant.TheVariants.{NoConstant}
use Rattle.tu_type_table.specs.declared.types.Row.{Row}
use Rattle.tu_type_table.specs.Types.{bare_of, root_of, span_of, int, boolean}
use Rattle.tu_type_operands.specs.declared.kind.Kind.{Kind}
use Rattle.tu_type_operands.specs.declared.kind.Kind.TheVariants.{Whole, AnyText, AnyArray}
use Rattle.tu_type_operands.specs.declared.value.Value.{Value}
use Rattle.tu_type_operands.specs.declared.value.Value.TheVariants.{Number}
use Rattle.tu_type_operands.specs.declared.operand.Place.{Place}
use Rattle.tu_type_operands.specs.Operands.{Operand, at_mark, index_of, number_of, value_of, place_of}
use Rattle.tu_type_operands.specs.declared.names.Entity.TheVariants.{Holds}
use Rattle.tu_type_operands.specs.declared.state.Around.{Around}
use Rattle.tu_type_operands.specs.declared.state.State.{State}
use Rattle.tu_type_operands.specs.Names.{here, with_entity, with_local, next_local}
use Rattle.tu_type_parts.specs.Expressions.{expr, path}
use Rattle.tu_type_parts.specs.Ranges.{range_root, labels, index_type}
use Rattle.tu_type_parts.specs.Specs.{Named, name_at, exprs}
use Rattle.tu_type_parts.specs.Declarations.{Piece, OfStatement, OfBinding, block_of, constant, variable, type}
use Rattle.tu_types.specs.Simple.{condition, operand_at, assignment, result, is_procedure, call_of, of_pointer, tagged, changed}
use Rattle.tu_types.specs.Streams.{put, get, open_statement, close}

-- ---- statements without blocks

abbrev pub exit_when : State → Mark → Of r-expr → Checked Plain
exit_when s m e = expr s e ⊳ λ a. asks s.around.in_loop Misplaced m ⊳ λ _. number_of (boolean) (mark_of e) (value_of a) ⊳ λ x. Good (ExitOf (OneThere x))

abbrev pub plain : State → Mark → Part simple → Checked Plain
plain s m (Exit _) = asks s.around.in_loop Misplaced m ⊳ λ _. Good (ExitOf NoneThere)
plain s m (ExitWhen _ _ e) = exit_when s m e
plain s m (Return _) = asks (is_procedure s.around.owner) Misplaced m ⊳ λ _. Good ReturnOf
plain s m (Result _ e) = expr s e ⊳ result s m (mark_of e) s.around.owner
plain s m (Assert _ e) = condition s e ⊳ λ x. Good (Check Asserts x)
plain s m (New _ c _ p) = both (path s c) (operand_at s p) ⊳ of_pointer (λ n to. NewOf n (at_mark (mark_of c)) to) (mark_of c) (mark_of p)
plain s m (Free _ c _ p) = both (path s c) (operand_at s p) ⊳ of_pointer (λ n to. FreeOf n (at_mark (mark_of c)) to) (mark_of c) (mark_of p)
plain s m (Tag _ u _ e) = both (operand_at s u) (expr s e) ⊳ λ z. tagged s (mark_of u) (mark_of e) z.1 z.0.kind (place_of z.0)
plain s m (Put _ stream parts open_end) = put s stream parts open_end
plain s m (Get _ stream parts) = get s stream parts
plain s m (Open _ _ to _ e _ mode) = open_statement s to e mode
plain s m (Close _ _ e) = close s e
plain s m (Quit _) = asks s.around.in_handler Misplaced m ⊳ λ _. Good (QuitOf NoneThere)
plain s m (QuitWith _ _ e) = expr s e ⊳ λ a. number_of int (mark_of e) (value_of a) ⊳ λ x. Good (QuitOf (OneThere x))

abbrev pub simply : State → Mark → Plain → Checked (State × Statement)
simply s m x = Good (s, Simply (at_mark m) x)

-- ---- what stands round a block

abbrev pub in_loop : State → State
in_loop s = record s { around = record s.around { in_loop = true } }

-- behind a block, with what it declared, and where the block stood
abbrev pub around_again : Around → State → State
around_again x s = record s { around = x }

-- a clause `invariant` of a loop
abbrev pub loop_invariant : State → Part (maybe (rule r-invariant)) → Checked (Option Test)
loop_invariant s Absent = Good None
loop_invariant s (Present (Invariant m _ e)) = condition s e ⊳ λ x. Good (Some (record { at = at_mark m; claim = Keeps; condition = x }))

-- ---- ranges of `for`

-- what a `for` goes through: the range, the root type that its index has, and the type that it goes through
pub record Course : Type 0 where
  pub range : Range
  pub root : ℕ
  pub span : Span
  pub through : Option ℕ

abbrev pub from_to : State → (m n : Mark) → Operand × Operand → Checked Course
from_to s m n z =
    range_root m (value_of z.0) ⊳ λ root. number_of root m (value_of z.0) ⊳ λ a. number_of root n (value_of z.1) ⊳ λ b.
    Good (record { range = FromTo a b; root = root; span = span_of s.types root; through = None })

abbrev pub course : State → Of r-range → Checked Course
course s (BoundedRange m from _ to) = both (expr s from) (expr s to) ⊳ from_to s (mark_of from) (mark_of to)
course s (NamedRange m name) = index_type s name ⊳ λ n.
    Good (record { range = Through (span_of s.types n); root = root_of s.types (here s n); span = span_of s.types n; through = Some n })

-- the index, a local of its text
abbrev pub with_index : State → Named → Course → State
with_index s x c = with_entity (with_local s (Counter c.span)) x.at.start (Holds (record { variable = Local (next_local s); kind = Whole c.root; is_variable = false; through = c.through; constant = NoConstant }))

abbrev pub is_decreasing : Part (maybe (t WordDecreasing)) → Bool
is_decreasing Absent = false
is_decreasing (Present word) = true

-- ---- case

-- the root and the values of the type of a `case`
pub record Subject : Type 0 where
  pub number : Scalar
  pub root : ℕ
  pub span : Span

abbrev pub span_at : State → Kind → Span
span_at s (Whole n) = span_of s.types n
span_at s kind = span_of s.types int

-- int, boolean, enumerations, and subranges of them
abbrev pub subject : State → Mark → Kind → Value → Checked Subject
subject s m kind (Number root e) = Good (record { number = e; root = root; span = span_at s kind })
subject s m kind value = fault Mismatch m

-- ---- bind

-- the local that a name is bound by
abbrev pub bound_local : List Row → (through : Option ℕ) → Kind → LocalName
bound_local types (Some n) kind = BoundName (bare_of types n)
bound_local types None (Whole n) = BoundName (bare_of types n)
bound_local types None AnyText = BoundText
bound_local types None (AnyArray indexes component) = BoundArray (map (index_of types) indexes) (bare_of types component)

-- what a function gives is bound to no name
abbrev pub bound_path : Mark → Path → Checked (Unit {0})
bound_path m (ResultOf at n call more) = fault Mismatch m
bound_path m other = Good tt

-- a place, which is a variable where it is bound by `var`
abbrev pub bound_place : (is_var : Bool) → Mark → Option Place → Checked Place
bound_place is_var m None = fault Mismatch m
bound_place true m (Some place) = bound_path m place.path ⊳ λ _. changed m (Some place) ⊳ λ _. Good place
bound_place false m (Some place) = bound_path m place.path ⊳ λ _. Good place

abbrev pub is_var : Part (maybe (t WordVar)) → Bool
is_var Absent = false
is_var (Present word) = true

-- the binding has the line of its `bind`, at m
abbrev pub bound : State → (m : Mark) → Named → (by_var : Bool) → Kind → Place → State × Piece
bound s m x by_var kind place = (
  with_entity (with_local s (bound_local s.types place.through kind)) x.at.start (Holds (record { variable = Local (next_local s); kind = kind; is_variable = by_var; through = place.through; constant = NoConstant })),
  OfBinding (at_mark m) (next_local s) by_var place.path,
)

abbrev pub binding : State → (m : Mark) → Of r-binding → Checked (State × Piece)
binding s m (Binding n var name _ x) = operand_at s x ⊳ λ a. bound_place (is_var var) (mark_of x) (place_of a) ⊳ λ place. Good (bound s m (name_at name) (is_var var) a.declared place)

abbrev pub more_bindings : State → (m : Mark) → Part (many (further r-binding)) → Checked (State × List Piece)
more_bindings s m NoMore = Good (s, [])
more_bindings s m (More (Behind _ x) more) = binding s m x ⊳ λ a. more_bindings a.0 m more ⊳ λ b. Good (b.0, a.1 ∷ b.1)

-- each binding sees those before it
abbrev pub bindings : State → Of r-bind → Checked (State × List Piece)
bindings s (BindDeclaration m _ (Listed x more)) = binding s m x ⊳ λ a. more_bindings a.0 m more ⊳ λ b. Good (b.0, a.1 ∷ b.1)

-- ---- statements

abbrev pub otherwise_of : List (At × Scalar × Block) → Block → Otherwise
otherwise_of [] block = Else block
otherwise_of (x ∷ more) block = ElsifOf x.0 x.1 x.2 (otherwise_of more block)

abbrev mutual
  pub statement : State → Of r-statement → Checked (State × Statement)
  statement s (Assign m to _ e) = both (operand_at s to) (expr s e) ⊳ assignment s (mark_of to) (mark_of e) ⊳ simply s m
  statement s (CallOf m x) = path s x ⊳ call_of m ⊳ simply s m
  statement s (If m _ e _ first elsifs last _ _) =
      condition s e ⊳ λ x. block s first ⊳ λ a. elsif_arms a.0 elsifs ⊳ λ b. else_block b.0 last ⊳ λ c. Good (c.0, IfOf (at_mark m) x a.1 (otherwise_of b.1 c.1))
  statement s (Loop m _ invariant body _ _) =
      loop_invariant s invariant ⊳ λ x. block (in_loop s) body ⊳ λ a. Good (around_again s.around a.0, LoopOf (at_mark m) x a.1)
  statement s (For m _ decreasing name _ range invariant body _ _) =
      course s range ⊳ λ c. loop_invariant (with_index s (name_at name) c) invariant ⊳ λ x. block (in_loop (with_index s (name_at name) c)) body ⊳ λ a.
      Good (around_again s.around a.0, ForOf (at_mark m) (next_local s) (is_decreasing decreasing) c.range x a.1)
  statement s (Case m _ e _ xs _ _) = expr s e ⊳ λ a. subject s (mark_of e) a.kind (value_of a) ⊳ λ x. arms x s xs ⊳ λ b. Good (b.0, CaseOf (at_mark m) x.number b.1)
  statement s (Begin m _ body _) = block s body ⊳ λ a. Good (a.0, BeginOf (at_mark m) a.1)
  statement s (Simple m x) = plain s m x ⊳ simply s m

  pub elsif_arms : State → Part (many (rule r-elsif)) → Checked (State × List (At × Scalar × Block))
  elsif_arms s NoMore = Good (s, [])
  elsif_arms s (More x more) = elsif_arm s x ⊳ λ a. elsif_arms a.0 more ⊳ λ b. Good (b.0, a.1 ∷ b.1)

  pub elsif_arm : State → Of r-elsif → Checked (State × (At × Scalar × Block))
  elsif_arm s (Elsif m _ e _ body) = condition s e ⊳ λ x. block s body ⊳ λ a. Good (a.0, (at_mark m, x, a.1))

  pub else_block : State → Part (maybe elses) → Checked (State × Block)
  else_block s Absent = Good (s, block_of [])
  else_block s (Present (Behind _ body)) = block s body

  -- labels are constant expressions of the type of the `case`
  pub arms : Subject → State → Part (maybe (rule r-arm)) → Checked (State × Arms)
  arms x s Absent = Good (s, NoArm)
  arms x s (Present a) = arm x s a

  pub arm : Subject → State → Of r-arm → Checked (State × Arms)
  arm x s (Arm m _ es _ body more) = exprs s es ⊳ labels x.root x.span ⊳ λ ls. block s body ⊳ λ a. arms x a.0 more ⊳ λ b. Good (b.0, Labelled ls a.1 b.1)
  arm x s (LastArm m _ _ body) = block s body ⊳ λ a. Good (a.0, Default a.1)

  pub block : State → Of r-block → Checked (State × Block)
  block s (BlockNode m xs) = parts s xs ⊳ λ z. Good (z.0, block_of z.1)

  pub parts : State → Part (many (separated block_part)) → Checked (State × List Piece)
  parts s NoMore = Good (s, [])
  parts s (More (Separated x _) more) = part s x ⊳ λ a. parts a.0 more ⊳ λ b. Good (b.0, a.1 ++ b.1)

  pub part : State → Part block_part → Checked (State × List Piece)
  part s (BlockConst x) = constant s x
  part s (BlockVar x) = variable true s x
  part s (BlockType x) = type s x
  part s (BlockBind x) = bindings s x
  part s (BlockStatement x) = statement s x ⊳ λ a. Good (a.0, OfStatement a.1 ∷ [])
