-- The predefined functions: what each takes, and what it gives.
use Rattle.std.specs.Prelude.{ℕ, ◌-◌, ◌==◌, Bool, true, false, ◌&&◌, List, [], ◌∷◌, map, length, codes, ℤ, pos, int_le, unsigned_abs, slice_get, Option, Some, None, if◌then◌else◌}
use Rattle.std.specs.List.{list_all}
use Rattle.grammar.specs.Tree.{Mark}
use Rattle.tu_base.specs.declared.operator.Unary.{Unary}
use Rattle.tu_base.specs.declared.operator.Unary.TheVariants.{Plus, Absolute, Successor, Predecessor, Next, Previous}
use Rattle.tu_base.specs.declared.operator.Binary.{Binary}
use Rattle.tu_base.specs.declared.operator.Binary.TheVariants.{Least, Greatest}
use Rattle.tu_base.specs.Texts.{are_equal_texts}
use Rattle.tu_core.specs.Core.{Scalar, Text, Path, Prefixed, Chain, Length, PlaceIn, ByteOf, TextInt, Bound, AtEnd, NoLink, Link, Character, IntText, Repeat, Optional, Absent, Present}
use Rattle.tu_type_base.specs.declared.fault.FaultKind.TheVariants.{Mismatch, BadCount}
use Rattle.tu_type_base.specs.Checked.{Checked, Good, fault, both, ◌⊳◌, asks}
use Rattle.tu_type_constants.specs.declared.constant.Constant.TheVariants.{NoConstant}
use Rattle.tu_type_constants.specs.Constants.{number_in}
use Rattle.tu_type_table.specs.declared.types.TypeForm.{TypeForm}
use Rattle.tu_type_table.specs.declared.types.Row.{Row}
use Rattle.tu_type_table.specs.declared.types.TypeForm.TheVariants.{Enumeration, ArrayOf}
use Rattle.tu_type_table.specs.Types.{row_at, root_of, int}
use Rattle.tu_type_operands.specs.declared.kind.Bounds.{Bounds}
use Rattle.tu_type_operands.specs.declared.kind.Bounds.TheVariants.{Within, From}
use Rattle.tu_type_operands.specs.declared.kind.Kind.{Kind}
use Rattle.tu_type_operands.specs.declared.kind.Kind.TheVariants.{Whole, AnyText, AnyArray}
use Rattle.tu_type_operands.specs.declared.value.Value.{Value}
use Rattle.tu_type_operands.specs.declared.value.Value.TheVariants.{Number, String}
use Rattle.tu_type_operands.specs.Operands.{Operand, at_mark, index_of, a_number, a_text, number_of, text_of_part, value_of, place_of}
use Rattle.tu_type_rules.specs.Operators.{a_truth}
use Rattle.tu_type_rules.specs.Arguments.{Argument, values_in}

pub data Function : Type 0 where
  Abs : Function
  Min : Function
  Max : Function
  Ord : Function
  Chr : Function
  Succ : Function
  Pred : Function
  LengthOf : Function
  IndexOf : Function
  RepeatOf : Function
  IntStr : Function
  StrInt : Function
  Lower : Function
  Upper : Function
  Eof : Function

unfoldable pub functions : List (List ℕ × Function)
functions =
    (codes "abs", Abs) ∷ (codes "min", Min) ∷ (codes "max", Max) ∷ (codes "ord", Ord) ∷ (codes "chr", Chr) ∷ (codes "succ", Succ) ∷ (codes "pred", Pred) ∷ (codes "length", LengthOf)
    ∷ (codes "index", IndexOf) ∷ (codes "repeat", RepeatOf) ∷ (codes "intstr", IntStr) ∷ (codes "strint", StrInt) ∷ (codes "lower", Lower) ∷ (codes "upper", Upper) ∷ (codes "eof", Eof) ∷ []

abbrev pub named_in : List (List ℕ × Function) → (name : List ℕ) → Option Function
named_in [] name = None
named_in (f ∷ more) name = elim (are_equal_texts f.0 name) [ true ↦ Some f.1 | false ↦ named_in more name ]

-- the least and the most parts that a function takes
abbrev pub counts : Function → ℕ × ℕ
counts Min = (2, 2)
counts Max = (2, 2)
counts IndexOf = (2, 2)
counts RepeatOf = (2, 2)
counts IntStr = (1, 2)
counts Lower = (1, 2)
counts Upper = (1, 2)
counts Eof = (0, 1)
counts other = (1, 1)

module _ (types : List Row) (m : Mark) where
  abbrev pub int_of : Mark × Operand → Checked Scalar
  int_of x = number_of int x.0 (value_of x.1)

  abbrev pub text_of : Mark × Operand → Checked Text
  text_of x = text_of_part x.0 (value_of x.1)

  abbrev pub gives : (root : ℕ) → Checked Scalar → Checked Operand
  gives root x = x ⊳ λ e. Good (a_number root e NoConstant)

  -- operators of one int, and of two
  abbrev pub of_one : Unary → Mark × Operand → Checked Operand
  of_one operator x = gives int (int_of x ⊳ λ e. Good (Prefixed m.number (operator ∷ []) e))

  abbrev pub of_two : Binary → Mark × Operand → Mark × Operand → Checked Operand
  of_two operator x y = gives int (both (int_of x) (int_of y) ⊳ λ z. Good (Chain m.number z.0 (Link operator z.1 NoLink)))

  -- the place of an enumeration's last value
  abbrev pub last_of : TypeForm → Option ℕ
  last_of (Enumeration written values) = Some (length values - 1)
  last_of form = None

  -- the place of an enumeration value, or the byte of a string
  abbrev pub ordinal : Mark → Value → Checked Operand
  ordinal n (Number root e) = elim (last_of (row_at types root).form) [ None ↦ fault Mismatch n | Some last ↦ gives int (Good (Prefixed m.number (Plus ∷ []) e)) ]
  ordinal n (String e) = gives int (Good (ByteOf m.number e))
  ordinal n other = fault Mismatch n

  -- the next or previous int or enumeration value
  abbrev pub beside : (of_int : Unary) → (of_last : ℕ → Unary) → Mark → Value → Checked Operand
  beside of_int of_last n (Number root e) = elim (root == int) [
    | true ↦ gives int (Good (Prefixed m.number (of_int ∷ []) e))
    | false ↦ elim (last_of (row_at types root).form) [ None ↦ fault Mismatch n | Some last ↦ gives root (Good (Prefixed m.number (of_last last ∷ []) e)) ]
  ]
  beside of_int of_last n other = fault Mismatch n

  -- ---- bounds

  abbrev pub indexes_of_form : TypeForm → List Bounds
  indexes_of_form (ArrayOf indexes component) = map Within indexes
  indexes_of_form form = []

  -- the indexes of an array
  abbrev pub indexes_of : Kind → List Bounds
  indexes_of (Whole n) = indexes_of_form (row_at types n).form
  indexes_of AnyText = []
  indexes_of (AnyArray indexes component) = indexes

  abbrev pub bounds_root : Bounds → ℕ
  bounds_root (Within n) = root_of types n
  bounds_root (From root low) = root

  abbrev pub root_at : List Bounds → (dimension : Option ℤ) → Option ℕ
  root_at indexes None = None
  root_at indexes (Some d) = elim (int_le (pos 1) d) [
    | false ↦ None
    | true ↦ elim (slice_get indexes (unsigned_abs d - 1)) [ None ↦ None | Some index ↦ Some (bounds_root index) ]
  ]

  -- Where all index types have one root, it is that of each bound. Else it is that of a dimension which is a constant expression.
  abbrev pub common_root : Bounds → List Bounds → Option ℤ → Option ℕ
  common_root index more d = if list_all (λ other. bounds_root other == bounds_root index) more then Some (bounds_root index) else root_at (index ∷ more) d

  -- an array, with its indexes
  abbrev pub array_at : Operand → Option (Bounds × List Bounds × Path)
  array_at a = elim (place_of a) [ None ↦ None | Some place ↦ elim (indexes_of a.kind) [ [] ↦ None | (index ∷ more) ↦ Some (index, more, place.path) ] ]

  abbrev pub bound_of : (is_upper : Bool) → Bounds × List Bounds × Path → Optional → Scalar
  bound_of is_upper a d = Bound m.number is_upper (map (index_of types) (a.0 ∷ a.1)) a.2 d

  abbrev pub first_bound : (is_upper : Bool) → Mark × Operand → Checked Operand
  first_bound is_upper x = elim (array_at x.1) [ None ↦ fault Mismatch x.0 | Some a ↦ gives (bounds_root a.0) (Good (bound_of is_upper a Absent)) ]

  abbrev pub rooted : (n : Mark) → Option ℕ → Scalar → Checked Operand
  rooted n None e = fault Mismatch n
  rooted n (Some root) e = gives root (Good e)

  abbrev pub one_bound : (is_upper : Bool) → Mark × Operand → Mark × Operand → Checked Operand
  one_bound is_upper x d = elim (array_at x.1) [
    | None ↦ fault Mismatch x.0
    | Some a ↦ int_of d ⊳ λ e. rooted d.0 (common_root a.0 a.1 (number_in d.1.constant)) (bound_of is_upper a (Present e))
  ]

  -- ---- a function with its parts

  abbrev pub applied : Function → List (Mark × Operand) → Checked Operand
  applied Abs (x ∷ []) = of_one Absolute x
  applied Min (x ∷ y ∷ []) = of_two Least x y
  applied Max (x ∷ y ∷ []) = of_two Greatest x y
  applied Ord (x ∷ []) = ordinal x.0 (value_of x.1)
  applied Chr (x ∷ []) = int_of x ⊳ λ e. Good (a_text (Character m.number e) NoConstant)
  applied Succ (x ∷ []) = beside Successor (λ last. Next last) x.0 (value_of x.1)
  applied Pred (x ∷ []) = beside Predecessor (λ last. Previous last) x.0 (value_of x.1)
  applied LengthOf (x ∷ []) = gives int (text_of x ⊳ λ e. Good (Length m.number e))
  applied IndexOf (x ∷ y ∷ []) = gives int (both (text_of x) (text_of y) ⊳ λ z. Good (PlaceIn m.number z.0 z.1))
  applied RepeatOf (x ∷ y ∷ []) = both (text_of x) (int_of y) ⊳ λ z. Good (a_text (Repeat m.number z.0 z.1) NoConstant)
  applied IntStr (x ∷ []) = int_of x ⊳ λ e. Good (a_text (IntText m.number e Absent) NoConstant)
  applied IntStr (x ∷ w ∷ []) = both (int_of x) (int_of w) ⊳ λ z. Good (a_text (IntText m.number z.0 (Present z.1)) NoConstant)
  applied StrInt (x ∷ []) = gives int (text_of x ⊳ λ e. Good (TextInt m.number e))
  applied Lower (x ∷ []) = first_bound false x
  applied Lower (x ∷ d ∷ []) = one_bound false x d
  applied Upper (x ∷ []) = first_bound true x
  applied Upper (x ∷ d ∷ []) = one_bound true x d
  applied Eof [] = Good (a_truth (AtEnd m.number (at_mark m) Absent) NoConstant)
  applied Eof (f ∷ []) = int_of f ⊳ λ e. Good (a_truth (AtEnd m.number (at_mark m) (Present e)) NoConstant)
  applied f xs = fault BadCount m

  abbrev pub has_count : ℕ × ℕ → ℕ → Bool
  has_count counts n = int_le (pos counts.0) (pos n) && int_le (pos n) (pos counts.1)

  abbrev pub predefined : Function → List Argument → Checked Operand
  predefined f args = asks (has_count (counts f) (length args)) BadCount m ⊳ λ _. values_in args ⊳ applied f
