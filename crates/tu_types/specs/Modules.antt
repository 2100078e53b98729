-- Modules.
use Rattle.std.specs.Prelude.{ℕ, Bool, true, false, List, [], ◌∷◌, ◌++◌, length, Option, Some, None}
use Rattle.grammar.specs.Description.{rule}
use Rattle.grammar.specs.Tree.{Mark}
use Rattle.tu_core.specs.declared.names.CallResult.TheVariants.{Nothing}
use Rattle.tu_core.specs.declared.claim.Claim.TheVariants.{Keeps}
use Rattle.tu_core.specs.Core.{Scalar, Statement, Module as ModuleOf, Empty, NoHandler, Routine}
use Rattle.tu_token.specs.Rules.{r-export, r-exp, r-invariant, r-module, many, maybe, listed}
use Rattle.tu_token.specs.Syntax.{Of}
use Rattle.tu_expr.specs.Parts.{Part, further, mark_of, start_of}
use Rattle.tu_tree.specs.Parts.{separated}
use Rattle.tu_tree.specs.ProgramViews.{module_part}
use Rattle.tu_tree.specs.Forms.{Present, Absent, More, NoMore, Behind, Listed, Separated, TypeDeclaration, Invariant, BracketedExport, PlainExport, ExportItem, Module, ModuleConst, ModuleVar, ModuleType, ModuleSubprogram, ModuleStatement, ModuleInvariant}
use Rattle.tu_type_base.specs.declared.fault.FaultKind.TheVariants.{Misplaced, Mismatch}
use Rattle.tu_type_base.specs.Checked.{Checked, Good, fault, ◌⊳◌, asks}
use Rattle.tu_type_operands.specs.Operands.{at_mark, number_of, value_of}
use Rattle.tu_type_table.specs.Types.{boolean}
use Rattle.tu_type_parts.specs.Expressions.{expr}
use Rattle.tu_type_operands.specs.declared.names.Entity.TheVariants.{ModuleName}
use Rattle.tu_type_operands.specs.declared.state.ModuleText.{ModuleText}
use Rattle.tu_type_operands.specs.declared.state.State.{State}
use Rattle.tu_type_operands.specs.Tables.{declaration_at}
use Rattle.tu_type_operands.specs.Names.{no_head, no_module, with_entity}
use Rattle.tu_type_parts.specs.Specs.{Named, name_at}
use Rattle.tu_type_parts.specs.Declarations.{Piece, OfStatement, block_of, is_among, constant, variable, type}
use Rattle.tu_types.specs.Statements.{statement}
use Rattle.tu_types.specs.Subprograms.{Listing, listings, fixed_variables, fixed_collections, tests, subprogram}

-- ---- what is exported as opaque

-- the declarations of a module's types, by their numbers
abbrev pub types_in : Part (many (separated module_part)) → List ℕ
types_in NoMore = []
types_in (More (Separated (ModuleType (TypeDeclaration m _ name _ x)) _) more) = start_of name ∷ types_in more
types_in (More other more) = types_in more

abbrev pub opaque_type : (types : List ℕ) → Named → Option ℕ → Checked (List ℕ)
opaque_type types x None = fault Mismatch x.at
opaque_type types x (Some n) = asks (is_among types n) Mismatch x.at ⊳ λ _. Good (n ∷ [])

-- `opaque` stands before the name of a type
abbrev pub exported : State → (types : List ℕ) → Of r-exp → Checked (List ℕ)
exported s types (ExportItem m Absent name) = Good []
exported s types (ExportItem m (Present word) name) = opaque_type types (name_at name) (declaration_at s.uses (start_of name))

abbrev pub more_exported : State → (types : List ℕ) → Part (many (further r-exp)) → Checked (List ℕ)
more_exported s types NoMore = Good []
more_exported s types (More (Behind _ x) more) = exported s types x ⊳ λ a. more_exported s types more ⊳ λ b. Good (a ++ b)

abbrev pub exports_listed : State → (types : List ℕ) → Part (listed r-exp) → Checked (List ℕ)
exports_listed s types (Listed x more) = exported s types x ⊳ λ a. more_exported s types more ⊳ λ b. Good (a ++ b)

abbrev pub any_exports : State → (types : List ℕ) → Part (maybe (listed r-exp)) → Checked (List ℕ)
any_exports s types Absent = Good []
any_exports s types (Present items) = exports_listed s types items

abbrev pub opaques : State → (types : List ℕ) → Part (maybe (rule r-export)) → Checked (List ℕ)
opaques s types Absent = Good []
opaques s types (Present (PlainExport m _ items)) = exports_listed s types items
opaques s types (Present (BracketedExport m _ _ items _)) = any_exports s types items

-- ---- invariants

-- An invariant is a routine without formals that tests its clause.
abbrev pub invariant_routine : State → Mark → Scalar → Routine
invariant_routine s m e = record {
  gives = Nothing;
  is_invariant = true;
  result = None;
  formals = [];
  stars = 0;
  locals = [];
  before = Empty;
  body = block_of (tests Keeps m e);
  handler = NoHandler;
  after = Empty;
  end_line = m.line;
  fixed = s.own.fixed;
  fixed_collections = s.own.fixed_collections;
}

abbrev pub with_invariant : State → Mark → Scalar → State
with_invariant s m e = record s { heads = s.heads ++ no_head ∷ []; routines = s.routines ++ invariant_routine s m e ∷ []; own = record s.own { invariant = Some (length s.routines, m.line) } }

-- A module has one at most.
abbrev pub is_free : {A : Type 0} → Option A → Bool
is_free None = true
is_free (Some x) = false

abbrev pub invariant : State → Of r-invariant → Checked State
invariant s (Invariant m _ e) = expr s e ⊳ λ a. asks (is_free s.own.invariant) Misplaced m ⊳ λ _. number_of boolean (mark_of e) (value_of a) ⊳ λ x. Good (with_invariant s m x)

-- ---- bodies

abbrev pub module_part_of : State → Part module_part → Checked (State × List Piece)
module_part_of s (ModuleConst x) = constant s x
module_part_of s (ModuleVar x) = variable false s x
module_part_of s (ModuleType x) = type s x
module_part_of s (ModuleSubprogram x) = subprogram s x ⊳ λ new. Good (new, [])
module_part_of s (ModuleStatement x) = statement s x ⊳ λ a. Good (a.0, OfStatement a.1 ∷ [])
module_part_of s (ModuleInvariant x) = invariant s x ⊳ λ new. Good (new, [])

abbrev pub module_parts : State → Part (many (separated module_part)) → Checked (State × List Piece)
module_parts s NoMore = Good (s, [])
module_parts s (More (Separated x _) more) = module_part_of s x ⊳ λ a. module_parts a.0 more ⊳ λ b. Good (b.0, a.1 ++ b.1)

-- the state in a module's body
abbrev pub entered_module : State → Mark → ModuleText → State
entered_module s m own = record s { own = own; around = record s.around { home = Some m.number } }

-- and behind it, where its name is known
abbrev pub left_module : (before : State) → State → (declaration : ℕ) → Option (ℕ × ℕ) → State
left_module before s n None = with_entity (record s { own = no_module; around = before.around }) n (ModuleName None)
left_module before s n (Some x) = with_entity (record s { own = no_module; around = before.around }) n (ModuleName (Some x.0))

abbrev pub invariant_number : Option (ℕ × ℕ) → Option ℕ
invariant_number None = None
invariant_number (Some x) = Some x.0

abbrev pub invariant_line : Option (ℕ × ℕ) → ℕ
invariant_line None = 0
invariant_line (Some x) = x.1

-- the body as a statement, at whose end the invariant is called
abbrev pub module_statement : Mark → ModuleText → List Piece → Statement
module_statement m own pieces = ModuleOf (at_mark m) own.fixed own.fixed_collections (invariant_number own.invariant) (invariant_line own.invariant) (block_of pieces)

abbrev pub text_of : State → List ℕ → List Listing → ModuleText
text_of s opaque xs = record { opaques = opaque; fixed = fixed_variables s xs; fixed_collections = fixed_collections s xs; invariant = None }

abbrev pub «module» : State → Of r-module → Checked (State × List Piece)
«module» s (Module m _ name import export xs ending) =
    opaques s (types_in xs) export ⊳ λ opaque. module_parts (entered_module s m (text_of s opaque (listings s import))) xs ⊳ λ z.
    Good (left_module s z.0 (start_of name) z.0.own.invariant, OfStatement (module_statement m z.0.own z.1) ∷ [])
