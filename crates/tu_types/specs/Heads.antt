-- The heads of subprograms.
use Rattle.std.specs.Prelude.{ℕ, ◌+◌, Bool, true, false, not, List, [], ◌∷◌, ◌++◌, length, map, nat_le, Option, Some, None}
use Rattle.grammar.specs.Tree.{Mark}
use Rattle.tu_core.specs.declared.names.Variable.TheVariants.{Local}
use Rattle.tu_core.specs.declared.names.PlaceKind.{PlaceKind}
use Rattle.tu_core.specs.declared.names.PlaceKind.TheVariants.{OfShape, AnyText as AnyTextPlace, AnyArray as AnyArrayPlace}
use Rattle.tu_core.specs.declared.names.Formal.{Formal}
use Rattle.tu_core.specs.declared.names.Formal.TheVariants.{ByValue, ByCopy, ByVar}
use Rattle.tu_core.specs.declared.names.CallResult.{CallResult}
use Rattle.tu_core.specs.declared.names.CallResult.TheVariants.{Nothing, OneValue, OnePlace}
use Rattle.tu_core.specs.declared.targets.Target.{Target}
use Rattle.tu_token.specs.declared.class.Class.TheVariants.{Name}
use Rattle.tu_token.specs.Rules.{r-head, r-formals, r-formal, many, maybe, listed, t}
use Rattle.grammar.specs.Description.{rule}
use Rattle.tu_token.specs.Syntax.{Of}
use Rattle.tu_expr.specs.Parts.{Part, further, start_of}
use Rattle.tu_tree.specs.Forms.{Present, Absent, More, NoMore, Behind, Listed, ProcedureHead, FunctionHead, Formals, Formal as FormalNode}
use Rattle.tu_type_base.specs.declared.fault.FaultKind.TheVariants.{TooLarge}
use Rattle.tu_type_base.specs.Checked.{Checked, Good, ◌⊳◌, asks}
use Rattle.tu_type_constants.specs.declared.constant.Constant.TheVariants.{NoConstant}
use Rattle.tu_type_table.specs.declared.types.Row.{Row}
use Rattle.tu_type_table.specs.Types.{bare_of, most_parts}
use Rattle.tu_type_operands.specs.declared.kind.Kind.{Kind}
use Rattle.tu_type_operands.specs.declared.kind.Kind.TheVariants.{Whole, AnyText, AnyArray}
use Rattle.tu_type_operands.specs.Operands.{at_mark, index_of, target_of, target_at}
use Rattle.tu_type_operands.specs.declared.names.Parameter.{Parameter}
use Rattle.tu_type_operands.specs.declared.names.Head.{Head}
use Rattle.tu_type_operands.specs.declared.names.Entity.TheVariants.{Holds}
use Rattle.tu_type_operands.specs.declared.state.State.{State}
use Rattle.tu_type_operands.specs.Names.{with_entity}
use Rattle.tu_type_parts.specs.Specs.{ForFormal, Named, name_at, names_of, spec, whole_spec}
use Rattle.tu_type_parts.specs.Declarations.{is_too_large}
use Rattle.tu_types.specs.Statements.{is_var}

-- ---- as the core has them

abbrev pub place_kind : List Row → Kind → PlaceKind
place_kind types (Whole n) = OfShape (bare_of types n)
place_kind types AnyText = AnyTextPlace
place_kind types (AnyArray indexes component) = AnyArrayPlace (map (index_of types) indexes) (bare_of types component)

abbrev pub constant_formal : List Row → Kind → Option Target → Formal
constant_formal types kind (Some target) = ByValue target
constant_formal types kind None = ByCopy (place_kind types kind)

abbrev pub formal_of : List Row → Parameter → Formal
formal_of types p = elim p.is_var [ true ↦ ByVar p.at (place_kind types p.kind) | false ↦ constant_formal types p.kind (target_at types p.kind) ]

abbrev pub result_of_type : List Row → (type : ℕ) → Option Target → CallResult
result_of_type types n (Some target) = OneValue target
result_of_type types n None = OnePlace (bare_of types n)

abbrev pub result_of : List Row → Option ℕ → CallResult
result_of types None = Nothing
result_of types (Some n) = result_of_type types n (target_of types n)

-- ---- formals

-- formals so far
pub record Formed : Type 0 where
  pub parameters : List Parameter
  pub stars : ℕ

abbrev pub none_formed : Formed
none_formed = record { parameters = []; stars = 0 }

-- each `*` that is written
abbrev pub stars_of : Kind → ℕ
stars_of (Whole n) = 0
stars_of AnyText = 1
stars_of (AnyArray indexes component) = 1

-- A formal is the local that has its number. A constant one is not changed.
abbrev pub with_formal : Mark → (by_var : Bool) → Kind → State × Formed → Named → State × Formed
with_formal m by_var kind z x = (
  with_entity z.0 x.at.start (Holds (record { variable = Local (length z.1.parameters); kind = kind; is_variable = by_var; through = None; constant = NoConstant })),
  record z.1 { parameters = z.1.parameters ++ record { kind = kind; is_var = by_var; at = at_mark m } ∷ [] },
)

abbrev pub with_formals : Mark → (by_var : Bool) → Kind → State × Formed → List Named → Checked (State × Formed)
with_formals m by_var kind z [] = Good z
with_formals m by_var kind z (x ∷ more) = asks (not (is_too_large z.0 kind)) TooLarge x.at ⊳ λ _. with_formals m by_var kind (with_formal m by_var kind z x) more

abbrev pub with_stars : Kind → State × Formed → State × Formed
with_stars kind z = (z.0, record z.1 { stars = z.1.stars + stars_of kind })

abbrev pub formal : State × Formed → Of r-formal → Checked (State × Formed)
formal z (FormalNode m var names _ type) = spec ForFormal z.0 type ⊳ λ a. with_formals m (is_var var) a.1.kind (with_stars a.1.kind (a.0, z.1)) (names_of names)

abbrev pub more_formals : State × Formed → Part (many (further r-formal)) → Checked (State × Formed)
more_formals z NoMore = Good z
more_formals z (More (Behind _ x) more) = formal z x ⊳ λ a. more_formals a more

abbrev pub listed_formals : State → Part (maybe (listed r-formal)) → Checked (State × Formed)
listed_formals s Absent = Good (s, none_formed)
listed_formals s (Present (Listed x more)) = formal (s, none_formed) x ⊳ λ a. more_formals a more

abbrev pub formals : State → Part (maybe (rule r-formals)) → Checked (State × Formed)
formals s Absent = Good (s, none_formed)
formals s (Present (Formals m _ items _)) = listed_formals s items

-- ---- heads

abbrev pub result_start : Part (maybe (t Name)) → Option ℕ
result_start Absent = None
result_start (Present name) = Some (start_of name)

-- A subprogram has at most 32 formals. What its head names of collections is nothing in a block. What its module may not change, it may not
-- change either.
abbrev pub headed : Named → (result result_name : Option ℕ) → State × Formed → Checked (State × Head)
headed x result result_name z =
    asks (nat_le (length z.1.parameters) most_parts) TooLarge x.at ⊳ λ _.
    Good (record z.0 { mentions = [] }, record { parameters = z.1.parameters; result = result; result_name = result_name; stars = z.1.stars; fixed = z.0.own.fixed; fixed_collections = z.0.own.fixed_collections })

abbrev pub function_headed : Named → (result_name : Option ℕ) → Formed → State × ℕ → Checked (State × Head)
function_headed x result_name formed z = asks (not (is_too_large z.0 (Whole z.1))) TooLarge x.at ⊳ λ _. headed x (Some z.1) result_name (z.0, formed)

abbrev pub head : State → Of r-head → Checked (State × Head)
head s (ProcedureHead m _ name items) = formals s items ⊳ headed (name_at name) None None
head s (FunctionHead m _ name items result _ type) = formals s items ⊳ λ z. whole_spec z.0 type ⊳ function_headed (name_at name) (result_start result) z.1
