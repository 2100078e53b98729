-- What stands in brackets, and what takes it: the formals of a subprogram, the indexes of an array, and a string.
use Rattle.std.specs.Prelude.{ℕ, ◌==◌, Bool, true, false, ◌&&◌, List, [], ◌∷◌, ℤ, pos, Option, Some, None, if◌then◌else◌}
use Rattle.grammar.specs.Tree.{Mark}
use Rattle.tu_base.specs.declared.limits.TheConstants.{MOST_TEXT_BYTES}
use Rattle.tu_base.specs.Scalars.{are_equal}
use Rattle.tu_core.specs.declared.names.At.{At}
use Rattle.tu_core.specs.declared.targets.Target.{Target}
use Rattle.tu_core.specs.Core.{Scalar, Spot, Exactly, Last, BeforeLast, Subscripts, NoSubscript, Subscript, Actuals, NoActual, Given, Lent, Path, Simple}
use Rattle.tu_type_base.specs.declared.fault.FaultKind.TheVariants.{Mismatch, NotVariable, BadCount}
use Rattle.tu_type_base.specs.Checked.{Checked, Good, fault, both, ◌⊳◌, asks}
use Rattle.tu_type_constants.specs.Constants.{number_in}
use Rattle.tu_type_table.specs.declared.types.TypeForm.{TypeForm}
use Rattle.tu_type_table.specs.declared.types.Row.{Row}
use Rattle.tu_type_table.specs.declared.types.TypeForm.TheVariants.{String as string_type, ArrayOf}
use Rattle.tu_type_table.specs.Types.{row_at, root_of, span_of, int, string}
use Rattle.tu_type_operands.specs.declared.kind.Bounds.{Bounds}
use Rattle.tu_type_operands.specs.declared.kind.Bounds.TheVariants.{Within, From}
use Rattle.tu_type_operands.specs.declared.kind.Kind.{Kind}
use Rattle.tu_type_operands.specs.declared.kind.Kind.TheVariants.{Whole, AnyText, AnyArray}
use Rattle.tu_type_operands.specs.declared.value.Value.{Value}
use Rattle.tu_type_operands.specs.declared.operand.Place.{Place}
use Rattle.tu_type_operands.specs.Operands.{Operand, at_mark, simple_of, target_at, fits, number_of, scalar_in, value_of, place_of}
use Rattle.tu_type_operands.specs.declared.names.Parameter.{Parameter}

-- an expression, `*`, or `* - e`
pub data Position : Type 0 where
  ValueAt : Operand → Position
  Length : Position
  LessLength : Scalar → Position

-- one position, two with `..` between them, of which the second is at a mark of its own, or `all`
pub data Argument : Type 0 where
  One : Mark → Position → Argument
  Two : Mark → Position → Mark → Position → Argument
  All : Mark → Argument

abbrev pub mark_of : Argument → Mark
mark_of (One m x) = m
mark_of (Two m x n y) = m
mark_of (All m) = m

-- an argument that is an expression
abbrev pub value_in : Argument → Checked (Mark × Operand)
value_in (One m (ValueAt a)) = Good (m, a)
value_in other = fault Mismatch (mark_of other)

abbrev pub values_in : List Argument → Checked (List (Mark × Operand))
values_in [] = Good []
values_in (x ∷ more) = both (value_in x) (values_in more) ⊳ λ z. Good (z.0 ∷ z.1)

-- a place in a string
abbrev pub spot_at : Mark → Position → Checked Spot
spot_at m (ValueAt a) = number_of int m (value_of a) ⊳ λ e. Good (Exactly e)
spot_at m Length = Good Last
spot_at m (LessLength e) = Good (BeforeLast e)

module _ (types : List Row) where
  abbrev pub scalar_at : Mark → Value → Checked Scalar
  scalar_at m value = elim (scalar_in value) [ None ↦ fault Mismatch m | Some e ↦ Good e ]

  -- a subscript fits its index type
  abbrev pub subscript : Bounds → Mark × Operand → Checked Scalar
  subscript (Within index) x = asks (fits types index x.1) Mismatch x.0 ⊳ λ _. scalar_at x.0 (value_of x.1)
  subscript (From root low) x = number_of root x.0 (value_of x.1)

  -- with its value where it is a constant expression
  abbrev pub valued_subscript : Bounds → Mark × Operand → Checked (Option ℤ × Scalar)
  valued_subscript index x = subscript index x ⊳ λ e. Good (number_in x.1.constant, e)

  -- A subscript for each index; m is the path.
  abbrev pub subscripts : (m : Mark) → List Bounds → List Argument → Checked Subscripts
  subscripts m [] [] = Good NoSubscript
  subscripts m (index ∷ indexes) (x ∷ more) = both (value_in x ⊳ valued_subscript index) (subscripts m indexes more) ⊳ λ z. Good (Subscript z.0.0 z.0.1 z.1)
  subscripts m indexes xs = fault BadCount m

  -- the size that a string has for a formal `string (*)`
  abbrev pub size_of_form : TypeForm → ℕ
  size_of_form (string_type most) = most
  size_of_form form = MOST_TEXT_BYTES

  abbrev pub size_of : Kind → ℕ
  size_of (Whole n) = size_of_form (row_at types n).form
  size_of other = MOST_TEXT_BYTES

  -- The bounds that an array has for a formal `array a .. *` with the same lower bound and component: its upper bound, or those at its name.
  abbrev pub bounds_from : (root : ℕ) → (low : ℤ) → (component : ℕ) → TypeForm → Option (Option (List ℤ))
  bounds_from root low c (ArrayOf (index ∷ []) component) =
      if (root_of types index == root) && (are_equal (span_of types index).low low && (component == c)) then Some (Some ((span_of types index).high ∷ [])) else None
  bounds_from root low c form = None

  abbrev pub bounds_for : List Bounds → (component : ℕ) → Kind → Option (Option (List ℤ))
  bounds_for (From root low ∷ []) c (Whole n) = bounds_from root low c (row_at types n).form
  bounds_for (From root low ∷ []) c (AnyArray (From other begin ∷ []) component) = if (other == root) && (are_equal begin low && (component == c)) then Some None else None
  bounds_for indexes c kind = None

  -- the size of a string variable, or the one at its name
  abbrev pub sizes_from : TypeForm → Option (Option (List ℤ))
  sizes_from (string_type most) = Some (Some (pos most ∷ []))
  sizes_from form = None

  abbrev pub sizes_for : Kind → Option (Option (List ℤ))
  sizes_for (Whole n) = sizes_from (row_at types n).form
  sizes_for AnyText = Some None
  sizes_for (AnyArray indexes component) = None

  abbrev pub whole_for : (formal : ℕ) → Kind → Option (Option (List ℤ))
  whole_for n (Whole m) = if m == n then Some (Some []) else None
  whole_for n other = None

  -- Whether what stands at a place is lent to a formal: it has the same type, but a formal `string (*)` takes any string variable, and one
  -- `array a .. *` each array that begins alike. With the bounds or the size that it has there: known, or those at its name.
  abbrev pub lent_for : (formal actual : Kind) → Option (Option (List ℤ))
  lent_for (Whole n) actual = whole_for n actual
  lent_for AnyText actual = sizes_for actual
  lent_for (AnyArray indexes component) actual = bounds_for indexes component actual

-- an actual as its formal receives it
pub data Received : Type 0 where
  AsValue : (size : Option ℕ) → Simple → Received
  AsPlace : (is_var : Bool) → (bounds : Option (List ℤ)) → Path → Received

abbrev pub with_actual : At → Received → Actuals → Actuals
with_actual at (AsValue size e) more = Given at size e more
with_actual at (AsPlace is_var bounds path) more = Lent at is_var bounds path more

module _ (types : List Row) where
  -- a value without parts that fits
  abbrev pub receive_value : Mark → (size : Option ℕ) → (fitting : Bool) → Option Simple → Checked Received
  receive_value m size true (Some e) = Good (AsValue size e)
  receive_value m size fitting other = fault Mismatch m

  abbrev pub receive_place : Mark → (is_var : Bool) → Option (Option (List ℤ)) → Option Place → Checked Received
  receive_place m is_var None place = fault Mismatch m
  receive_place m is_var (Some bounds) None = fault NotVariable m
  receive_place m false (Some bounds) (Some place) = Good (AsPlace false bounds place.path)
  receive_place m true (Some bounds) (Some place) = asks place.is_variable NotVariable m ⊳ λ _. Good (AsPlace true bounds place.path)

  -- A constant formal without parts receives a value, and one with parts a place; a `var` formal receives a variable.
  abbrev pub receive_constant : Mark → Kind → Option Target → Operand → Checked Received
  receive_constant m kind None a = receive_place m false (lent_for types kind a.kind) (place_of a)
  receive_constant m (Whole n) (Some target) a = receive_value m None (fits types n a) (simple_of (value_of a))
  receive_constant m kind (Some target) a = receive_value m (Some (size_of types a.kind)) (fits types string a) (simple_of (value_of a))

  abbrev pub receive : Parameter → Mark × Operand → Checked Received
  receive p x = elim p.is_var [
    | true ↦ receive_place x.0 true (lent_for types p.kind x.1.kind) (place_of x.1)
    | false ↦ receive_constant x.0 p.kind (target_at types p.kind) x.1
  ]

  -- An actual for each formal; m is the callee.
  abbrev pub actuals : (m : Mark) → List Parameter → List Argument → Checked Actuals
  actuals m [] [] = Good NoActual
  actuals m (p ∷ parameters) (x ∷ more) = both (value_in x ⊳ receive p) (actuals m parameters more) ⊳ λ z. Good (with_actual (at_mark (mark_of x)) z.0 z.1)
  actuals m parameters xs = fault BadCount m
