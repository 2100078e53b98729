-- What an expression comes to: its type, its value as the core has it, and where it is a place, that place.
use Rattle.std.specs.Prelude.{ℕ, ◌==◌, Bool, true, false, ◌||◌, List, Option, Some, None}
use Rattle.grammar.specs.Tree.{Mark}
use Rattle.tu_core.specs.declared.names.At.{At}
use Rattle.tu_core.specs.declared.targets.Index.{Index}
use Rattle.tu_core.specs.declared.targets.Index.TheVariants.{Known, Open}
use Rattle.tu_core.specs.declared.targets.Size.TheVariants.{Most, AtName}
use Rattle.tu_core.specs.declared.targets.Target.{Target}
use Rattle.tu_core.specs.declared.targets.Target.TheVariants.{TakesScalar, TakesText, TakesSet, TakesPointer}
use Rattle.tu_core.specs.Core.{Scalar, Use, CallScalar, Text, UseText, CallText, Set, UseSet, CallSet, Pointer, UsePointer, CallPointer, Path, Call, Simple, AScalar, AText, ASet, APointer}
use Rattle.tu_type_base.specs.declared.fault.FaultKind.TheVariants.{Mismatch}
use Rattle.tu_type_base.specs.Checked.{Checked, Good, fault, asks, ◌⊳◌}
use Rattle.tu_type_constants.specs.declared.constant.Constant.{Constant}
use Rattle.tu_type_table.specs.declared.types.TypeForm.{TypeForm}
use Rattle.tu_type_table.specs.declared.types.Row.{Row}
use Rattle.tu_type_table.specs.declared.types.TypeForm.TheVariants.{Int, Boolean, Subrange, Enumeration, String as string_type, SetOf as set_type, PointerTo as pointer_type, ArrayOf, Record, Union, Opaque}
use Rattle.tu_type_table.specs.Types.{row_at, bare_form, span_of_form, span_of, string, base_of}
use Rattle.tu_type_operands.specs.declared.kind.Bounds.{Bounds}
use Rattle.tu_type_operands.specs.declared.kind.Bounds.TheVariants.{Within, From}
use Rattle.tu_type_operands.specs.declared.kind.Kind.{Kind}
use Rattle.tu_type_operands.specs.declared.kind.Kind.TheVariants.{Whole, AnyText, AnyArray}
use Rattle.tu_type_operands.specs.declared.value.Value.{Value}
use Rattle.tu_type_operands.specs.declared.value.Value.TheVariants.{Number, String, Members, Points, Sealed, Parts}
use Rattle.tu_type_operands.specs.declared.operand.Place.{Place}
use Rattle.tu_type_operands.specs.declared.operand.Sort.{Sort}
use Rattle.tu_type_operands.specs.declared.operand.Sort.TheVariants.{NumberSort, StringSort, MembersSort, PointsSort, SealedNumber, SealedText, SealedSet, SealedPointer, PartsSort}
use Rattle.tu_type_operands.specs.declared.operand.Found.{Found}
use Rattle.tu_type_operands.specs.declared.operand.Found.TheVariants.{AtPlace, AValue}
use Rattle.tu_type_operands.specs.declared.operand.OperandForm.{OperandForm}

abbrev pub Operand : Type 0
Operand = OperandForm

-- where a form stands
abbrev pub at_mark : Mark → At
at_mark m = record { start = m.start; line = m.line }

-- where a value comes from: it is read at a place, or a call gives it
pub data Source : Type 0 where
  OfPlace : Path → Source
  OfCall : Call → Source

abbrev pub scalar_from : (node : ℕ) → Source → Scalar
scalar_from node (OfPlace path) = Use node path
scalar_from node (OfCall call) = CallScalar node call

abbrev pub text_from : (node : ℕ) → Source → Text
text_from node (OfPlace path) = UseText node path
text_from node (OfCall call) = CallText node call

abbrev pub set_from : (node : ℕ) → Source → Set
set_from node (OfPlace path) = UseSet node path
set_from node (OfCall call) = CallSet node call

abbrev pub pointer_from : (node : ℕ) → Source → Pointer
pointer_from node (OfPlace path) = UsePointer node path
pointer_from node (OfCall call) = CallPointer node call

-- a value of a sort
abbrev pub value_of_sort : (node : ℕ) → Source → Sort → Value
value_of_sort node source (NumberSort root) = Number root (scalar_from node source)
value_of_sort node source StringSort = String (text_from node source)
value_of_sort node source (MembersSort base) = Members base (set_from node source)
value_of_sort node source (PointsSort collection) = Points collection (pointer_from node source)
value_of_sort node source SealedNumber = Sealed (AScalar (scalar_from node source))
value_of_sort node source SealedText = Sealed (AText (text_from node source))
value_of_sort node source SealedSet = Sealed (ASet (set_from node source))
value_of_sort node source SealedPointer = Sealed (APointer (pointer_from node source))
value_of_sort node source PartsSort = Parts

abbrev pub value_found : Found → Value
value_found (AtPlace node sort place) = value_of_sort node (OfPlace place.path) sort
value_found (AValue value) = value

-- what an operand is where it is evaluated
abbrev pub value_of : Operand → Value
value_of a = value_found a.found

abbrev pub place_found : Found → Option Place
place_found (AtPlace node sort place) = Some place
place_found (AValue value) = None

-- the place that an operand is, if it is one
abbrev pub place_of : Operand → Option Place
place_of a = place_found a.found

abbrev pub simple_of : Value → Option Simple
simple_of (Number root e) = Some (AScalar e)
simple_of (String e) = Some (AText e)
simple_of (Members base e) = Some (ASet e)
simple_of (Points c e) = Some (APointer e)
simple_of (Sealed e) = Some e
simple_of Parts = None

module _ (types : List Row) where
  -- what a type without parts takes
  abbrev pub target_of_form : TypeForm → Option Target
  target_of_form (string_type most) = Some (TakesText (Most most))
  target_of_form (set_type base) = Some (TakesSet (base_of types base))
  target_of_form (pointer_type collection) = Some (TakesPointer collection)
  target_of_form (ArrayOf indexes component) = None
  target_of_form (Record written fields) = None
  target_of_form (Union written tag_name tag variants) = None
  target_of_form scalar = Some (TakesScalar (span_of_form types scalar))

  abbrev pub target_of : (type : ℕ) → Option Target
  target_of n = target_of_form (bare_form types n)

  -- what a place takes as a value without parts
  abbrev pub target_at : Kind → Option Target
  target_at (Whole n) = target_of n
  target_at AnyText = Some (TakesText AtName)
  target_at (AnyArray indexes component) = None

  -- what is of an opaque type, of which its target tells what it is
  abbrev pub sealed_sort : Option Target → Sort
  sealed_sort None = PartsSort
  sealed_sort (Some (TakesScalar s)) = SealedNumber
  sealed_sort (Some (TakesText size)) = SealedText
  sealed_sort (Some (TakesSet base)) = SealedSet
  sealed_sort (Some (TakesPointer collection)) = SealedPointer

  -- what is of a type
  abbrev pub sort_of_form : (type : ℕ) → TypeForm → Sort
  sort_of_form n Int = NumberSort n
  sort_of_form n Boolean = NumberSort n
  sort_of_form n (Subrange root low high) = NumberSort root
  sort_of_form n (Enumeration written values) = NumberSort n
  sort_of_form n (string_type most) = StringSort
  sort_of_form n (set_type base) = MembersSort base
  sort_of_form n (pointer_type collection) = PointsSort collection
  sort_of_form n (ArrayOf indexes component) = PartsSort
  sort_of_form n (Record written fields) = PartsSort
  sort_of_form n (Union written tag_name tag variants) = PartsSort
  sort_of_form n (Opaque written) = sealed_sort (target_of n)

  abbrev pub sort_at : Kind → Sort
  sort_at (Whole n) = sort_of_form n (row_at types n).form
  sort_at AnyText = StringSort
  sort_at (AnyArray indexes component) = PartsSort

  -- what stands at a place, and has the node's number where it is read
  abbrev pub at_place : (node : ℕ) → (kind declared : Kind) → Place → Constant → Operand
  at_place node kind declared place constant = record { kind = kind; declared = declared; found = AtPlace node (sort_at kind) place; constant = constant }

  -- the root of a type's values, where it is a type of numbers
  abbrev pub number_root : (type : ℕ) → TypeForm → Option ℕ
  number_root n Int = Some n
  number_root n Boolean = Some n
  number_root n (Subrange root low high) = Some root
  number_root n (Enumeration written values) = Some n
  number_root n form = None

  abbrev pub is_root : Option ℕ → ℕ → Bool
  is_root None root = false
  is_root (Some other) root = other == root

  abbrev pub is_string : TypeForm → Bool
  is_string (string_type most) = true
  is_string form = false

  abbrev pub is_pointer : (collection : ℕ) → TypeForm → Bool
  is_pointer c (pointer_type collection) = collection == c
  is_pointer c form = false

  -- the types are the same, where a formal `string (*)` counts as `string`
  abbrev pub is_of_type : (type : ℕ) → Kind → Bool
  is_of_type n (Whole m) = m == n
  is_of_type n AnyText = n == string
  is_of_type n (AnyArray indexes component) = false

  -- A value fits a target where the types are the same, or both have the same scalar root, or both are strings.
  -- Pointers to one collection are of one type.
  abbrev pub fits_value : (type : ℕ) → Value → Bool
  fits_value n (Number root e) = is_root (number_root n (row_at types n).form) root
  fits_value n (String e) = is_string (row_at types n).form
  fits_value n (Points c e) = is_pointer c (row_at types n).form
  fits_value n other = false

  abbrev pub fits : (type : ℕ) → Operand → Bool
  fits n a = is_of_type n a.kind || fits_value n (value_of a)

  abbrev pub index_of : Bounds → Index
  index_of (Within n) = Known (span_of types n)
  index_of (From root low) = Open low

-- a value that is no place
abbrev pub a_value : (type : ℕ) → Value → Constant → Operand
a_value n value constant = record { kind = Whole n; declared = Whole n; found = AValue value; constant = constant }

-- an int, a truth value or an enumeration value of its root type
abbrev pub a_number : (root : ℕ) → Scalar → Constant → Operand
a_number root e constant = a_value root (Number root e) constant

abbrev pub a_text : Text → Constant → Operand
a_text e constant = a_value string (String e) constant

-- a number of a root, which a part at a place is to be
abbrev pub number_of : (root : ℕ) → Mark → Value → Checked Scalar
number_of root m (Number other e) = asks (other == root) Mismatch m ⊳ λ _. Good e
number_of root m other = fault Mismatch m

abbrev pub text_of_part : Mark → Value → Checked Text
text_of_part m (String e) = Good e
text_of_part m other = fault Mismatch m

abbrev pub set_of_part : (base : ℕ) → Mark → Value → Checked Set
set_of_part base m (Members other e) = asks (other == base) Mismatch m ⊳ λ _. Good e
set_of_part base m other = fault Mismatch m

abbrev pub pointer_of_part : (collection : ℕ) → Mark → Value → Checked Pointer
pointer_of_part c m (Points other e) = asks (other == c) Mismatch m ⊳ λ _. Good e
pointer_of_part c m other = fault Mismatch m

-- a scalar of any type
abbrev pub scalar_in : Value → Option Scalar
scalar_in (Number root e) = Some e
scalar_in (Sealed (AScalar e)) = Some e
scalar_in other = None
