-- Subprograms.
use Rattle.std.specs.Prelude.{ℕ, zero, suc, ◌==◌, Bool, true, false, ◌&&◌, List, [], ◌∷◌, ◌++◌, length, map, Option, Some, None, if◌then◌else◌}
use Rattle.std.specs.List.{list_any}
use Rattle.grammar.specs.Description.{rule}
use Rattle.grammar.specs.Tree.{Mark}
use Rattle.tu_core.specs.declared.names.Variable.{Variable}
use Rattle.tu_core.specs.declared.names.Variable.TheVariants.{Local}
use Rattle.tu_core.specs.declared.names.LocalName.{LocalName}
use Rattle.tu_core.specs.declared.names.LocalName.TheVariants.{Caught, ResultName}
use Rattle.tu_core.specs.declared.claim.Claim.{Claim}
use Rattle.tu_core.specs.declared.claim.Claim.TheVariants.{Requires, Ensures}
use Rattle.tu_core.specs.Core.{Scalar, Named as NamedStart, Check, InitClause, Simply, Empty, Handler, NoHandler, Handles, Routine}
use Rattle.tu_token.specs.Rules.{r-import, r-imp, r-head, r-rest, r-pre, r-givens, r-given, r-post, r-handler, r-ending, r-subprogram, many, maybe, listed}
use Rattle.tu_token.specs.Syntax.{Of}
use Rattle.tu_expr.specs.Parts.{Part, further, mark_of, start_of}
use Rattle.tu_tree.specs.Forms.{Present, Absent, More, NoMore, Behind, Listed, ForwardSubprogram, WholeSubprogram, BodySubprogram, ProcedureHead, FunctionHead, Rest, Pre, Givens, Given, Post, Handler as HandlerNode, Ending, BracketedImport, PlainImport, ImportItem, Block as BlockNode}
use Rattle.tu_type_base.specs.declared.fault.FaultKind.TheVariants.{Mismatch}
use Rattle.tu_type_base.specs.Checked.{Checked, Good, fault, ◌⊳◌}
use Rattle.tu_type_constants.specs.declared.constant.Constant.TheVariants.{NoConstant}
use Rattle.tu_type_table.specs.declared.types.Row.{Row}
use Rattle.tu_type_table.specs.Types.{int}
use Rattle.tu_type_operands.specs.declared.kind.Kind.TheVariants.{Whole}
use Rattle.tu_type_operands.specs.Operands.{at_mark}
use Rattle.tu_type_operands.specs.declared.names.Head.{Head}
use Rattle.tu_type_operands.specs.declared.names.Entity.{Entity}
use Rattle.tu_type_operands.specs.declared.names.Entity.TheVariants.{Holds, CollectionName, SubprogramName}
use Rattle.tu_type_operands.specs.declared.state.Owner.{Owner}
use Rattle.tu_type_operands.specs.declared.state.Owner.TheVariants.{OfProcedure, OfFunction}
use Rattle.tu_type_operands.specs.declared.state.State.{State}
use Rattle.tu_type_operands.specs.Tables.{declaration_at}
use Rattle.tu_type_operands.specs.Names.{head_of, entity_of, entity_at, with_entity, with_local, next_local}
use Rattle.tu_type_parts.specs.Expressions.{expr}
use Rattle.tu_type_parts.specs.Specs.{name_at}
use Rattle.tu_type_parts.specs.Starts.{Plain, fitted}
use Rattle.tu_type_parts.specs.Declarations.{Piece, OfStatement, OfDeclaration, block_of, declared, constant_of, type_of_start}
use Rattle.tu_types.specs.Simple.{condition}
use Rattle.tu_types.specs.Statements.{parts, block, is_var}
use Rattle.tu_types.specs.Heads.{formal_of, result_of, head}

-- ---- import lists

-- a listed name: its declaration, and whether `var` stands before it
pub record Listing : Type 0 where
  pub declaration : Option ℕ
  pub by_var : Bool

abbrev pub listing : State → Of r-imp → Listing
listing s (ImportItem m var name) = record { declaration = declaration_at s.uses (start_of name); by_var = is_var var }

abbrev pub more_listings : State → Part (many (further r-imp)) → List Listing
more_listings s NoMore = []
more_listings s (More (Behind _ x) more) = listing s x ∷ more_listings s more

abbrev pub listings_of : State → Part (listed r-imp) → List Listing
listings_of s (Listed x more) = listing s x ∷ more_listings s more

abbrev pub any_listings : State → Part (maybe (listed r-imp)) → List Listing
any_listings s Absent = []
any_listings s (Present items) = listings_of s items

abbrev pub listings : State → Part (maybe (rule r-import)) → List Listing
listings s Absent = []
listings s (Present (PlainImport m _ items)) = listings_of s items
listings s (Present (BracketedImport m _ _ items _)) = any_listings s items

abbrev pub is_same_declaration : Option ℕ → Option ℕ → Bool
is_same_declaration (Some m) (Some n) = m == n
is_same_declaration x y = false

-- Of a name that is listed twice, `var` at either counts.
abbrev pub may_change : List Listing → Listing → Bool
may_change all x = list_any (λ y. y.by_var && is_same_declaration y.declaration x.declaration) all

-- what a list lets a text read and not change: variables, and collections
abbrev pub fixed_variable : Option Entity → List Variable
fixed_variable (Some (Holds x)) = if x.is_variable then x.variable ∷ [] else []
fixed_variable other = []

abbrev pub fixed_collection : Option Entity → List ℕ
fixed_collection (Some (CollectionName c)) = c ∷ []
fixed_collection other = []

abbrev pub fixed_of : {A : Type 0} → State → (Option Entity → List A) → (all listings : List Listing) → List A
fixed_of s pick all [] = []
fixed_of s pick all (x ∷ more) = (if may_change all x then [] else pick (entity_of s x.declaration)) ++ fixed_of s pick all more

abbrev pub fixed_variables : State → List Listing → List Variable
fixed_variables s xs = fixed_of s fixed_variable xs xs

abbrev pub fixed_collections : State → List Listing → List ℕ
fixed_collections s xs = fixed_of s fixed_collection xs xs

-- ---- what is known of a subprogram before its body

-- with what the import list adds
abbrev pub with_list : State → List Listing → Head → Head
with_list s xs h = record h { fixed = fixed_variables s xs ++ h.fixed; fixed_collections = fixed_collections s xs ++ h.fixed_collections }

abbrev pub begun_routine : List Row → Head → Routine
begun_routine types h = record {
  gives = result_of types h.result;
  is_invariant = false;
  result = None;
  formals = map (formal_of types) h.parameters;
  stars = h.stars;
  locals = [];
  before = Empty;
  body = Empty;
  handler = NoHandler;
  after = Empty;
  end_line = 0;
  fixed = h.fixed;
  fixed_collections = h.fixed_collections;
}

abbrev pub head_start : Of r-head → ℕ
head_start (ProcedureHead m _ name items) = start_of name
head_start (FunctionHead m _ name items result _ type) = start_of name

-- the subprogram is known from its head on
abbrev pub known : State → (declaration : ℕ) → Head → State
known s n h = with_entity (record s { heads = s.heads ++ h ∷ []; routines = s.routines ++ begun_routine s.types h ∷ [] }) n (SubprogramName (length s.routines))

-- ---- bodies

abbrev pub owner_of : Option ℕ → Owner
owner_of None = OfProcedure
owner_of (Some n) = OfFunction n

-- the text of a subprogram begins with its formals
abbrev pub within : State → Head → State
within s h = record s { formals = length h.parameters; locals = []; around = record { owner = owner_of h.result; in_loop = false; in_handler = false; home = s.around.home } }

-- and behind it the text around goes on
abbrev pub outside : (around : State) → State → State
outside before s = record s { formals = before.formals; locals = before.locals; around = before.around }

-- a local name of a type that is not changed
abbrev pub with_fixed_local : State → (declaration : ℕ) → LocalName → (type : ℕ) → State
with_fixed_local s n x type = with_entity (with_local s x) n (Holds (record { variable = Local (next_local s); kind = Whole type; is_variable = false; through = None; constant = NoConstant }))

-- the name that the result has in `post`
abbrev pub with_result : State → Option ℕ → Option ℕ → State × Option ℕ
with_result s (Some n) (Some type) = (with_fixed_local s n ResultName type, Some (next_local s))
with_result s name type = (s, None)

abbrev pub tests : Claim → Mark → Scalar → List Piece
tests claim m e = OfStatement (Simply (at_mark m) (Check claim e)) ∷ []

abbrev pub pre : State → Part (maybe (rule r-pre)) → Checked (List Piece)
pre s Absent = Good []
pre s (Present (Pre m _ e)) = condition s e ⊳ λ x. Good (tests Requires m x)

abbrev pub post : State → Part (maybe (rule r-post)) → Checked (List Piece)
post s Absent = Good []
post s (Present (Post m _ e)) = condition s e ⊳ λ x. Good (tests Ensures m x)

-- a name of `init` is a constant of the type of its expression
abbrev pub given : State → Of r-given → Checked (State × NamedStart)
given s (Given m name _ e) =
    expr s e ⊳ λ a. type_of_start (mark_of e) a.declared ⊳ λ n. declared (Whole n) false (constant_of s n (Plain (mark_of e) a)) s (name_at name) ⊳ λ z.
    fitted s n (Plain (mark_of e) a) ⊳ λ begin. Good (z.0, record { name = z.1; start = begin })

abbrev pub more_givens : State → Part (many (further r-given)) → Checked (State × List NamedStart)
more_givens s NoMore = Good (s, [])
more_givens s (More (Behind _ x) more) = given s x ⊳ λ a. more_givens a.0 more ⊳ λ b. Good (b.0, a.1 ∷ b.1)

-- each has the line of the clause
abbrev pub givens : State → Part (maybe (rule r-givens)) → Checked (State × List Piece)
givens s Absent = Good (s, [])
givens s (Present (Givens m _ (Listed x more))) = given s x ⊳ λ a. more_givens a.0 more ⊳ λ b. Good (b.0, OfDeclaration (at_mark m) (InitClause (a.1 ∷ b.1)) ∷ [])

-- A handler's name is a constant int, which holds the exception's number.
abbrev pub in_handler : State → State
in_handler s = record s { around = record s.around { in_handler = true } }

abbrev pub handler : State → Part (maybe (rule r-handler)) → Checked (State × Handler)
handler s Absent = Good (s, NoHandler)
handler s (Present (HandlerNode m _ _ name _ body _ _)) =
    block (in_handler (with_fixed_local s (start_of name) Caught int)) body ⊳ λ a. Good (record a.0 { around = s.around }, Handles (at_mark m) (next_local s) a.1)

abbrev pub end_line : Of r-ending → ℕ
end_line (Ending m _ name) = m.line

abbrev pub with_routine_at : (number : ℕ) → Routine → List Routine → List Routine
with_routine_at n r [] = []
with_routine_at zero r (x ∷ more) = r ∷ more
with_routine_at (suc n) r (x ∷ more) = x ∷ with_routine_at n r more

-- a body: `pre` and `init`, `post`, the handler, and the block
abbrev pub body_of : (routine : Routine) → (result : State × Option ℕ) → Of r-rest → Checked (State × Routine)
body_of r z (Rest m before names behind catches (BlockNode n xs) ending) =
    pre z.0 before ⊳ λ a. givens z.0 names ⊳ λ b. post b.0 behind ⊳ λ c. handler b.0 catches ⊳ λ d. parts d.0 xs ⊳ λ e.
    Good (e.0, record r { result = z.1; locals = e.0.locals; before = block_of (a ++ b.1); body = block_of e.1; handler = d.1; after = block_of c; end_line = end_line ending })

abbrev pub routine : State → (number : ℕ) → Head → Of r-rest → Checked State
routine s n h x = body_of (begun_routine s.types h) (with_result (within s h) h.result_name h.result) x ⊳ λ z. Good (outside s (record z.0 { routines = with_routine_at n z.1 z.0.routines }))

-- the body of a `forward`
abbrev pub awaited : State → Mark → Of r-rest → Option Entity → Checked State
awaited s m x (Some (SubprogramName n)) = routine s n (head_of s n) x
awaited s m x other = fault Mismatch m

-- a subprogram with its head and its import list
abbrev pub whole : State × Head → (declaration : ℕ) → Of r-rest → Checked State
whole z n rest = routine (known z.0 n z.1) (length z.0.routines) z.1 rest

abbrev pub headed : State → Of r-head → Part (maybe (rule r-import)) → Checked (State × Head)
headed s x import = head s x ⊳ λ z. Good (z.0, with_list s (listings s import) z.1)

abbrev pub subprogram : State → Of r-subprogram → Checked State
subprogram s (ForwardSubprogram m _ x import) = headed s x import ⊳ λ z. Good (known z.0 (head_start x) z.1)
subprogram s (WholeSubprogram m x import rest) = headed s x import ⊳ λ z. whole z (head_start x) rest
subprogram s (BodySubprogram m _ kind name rest) = awaited s m rest (entity_at s (start_of name))
