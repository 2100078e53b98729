-- Bounds, sizes and labels, which are constant expressions, and the types that ranges are.
use Rattle.std.specs.Prelude.{ℕ, ◌==◌, Bool, true, false, not, ◌&&◌, List, [], ◌∷◌, ℤ, pos, int_le, unsigned_abs, Option, Some, None}
use Rattle.grammar.specs.Tree.{Mark}
use Rattle.tu_base.specs.declared.limits.TheConstants.{MOST_TEXT_BYTES}
use Rattle.tu_base.specs.declared.shape.Span.{Span}
use Rattle.tu_token.specs.Rules.{r-range, r-name}
use Rattle.tu_token.specs.Syntax.{Of}
use Rattle.tu_expr.specs.Parts.{mark_of, start_of}
use Rattle.tu_tree.specs.Forms.{Present, Absent, Behind, NameOf, BoundedRange, NamedRange}
use Rattle.tu_type_base.specs.declared.fault.FaultKind.TheVariants.{Mismatch, NotConstant, OutOfRange}
use Rattle.tu_type_base.specs.Checked.{Checked, Good, fault, both, ◌⊳◌, asks}
use Rattle.tu_type_constants.specs.declared.constant.Constant.{Constant}
use Rattle.tu_type_constants.specs.Constants.{number_in}
use Rattle.tu_type_table.specs.declared.types.TypeForm.{TypeForm}
use Rattle.tu_type_table.specs.declared.types.TypeForm.TheVariants.{Subrange, Enumeration}
use Rattle.tu_type_table.specs.Types.{numbered, int, boolean}
use Rattle.tu_type_operands.specs.declared.value.Value.{Value}
use Rattle.tu_type_operands.specs.declared.value.Value.TheVariants.{Number}
use Rattle.tu_type_operands.specs.Operands.{Operand, number_of, value_of}
use Rattle.tu_type_operands.specs.declared.names.Entity.{Entity}
use Rattle.tu_type_operands.specs.declared.names.Entity.TheVariants.{TypeName}
use Rattle.tu_type_operands.specs.declared.state.State.{State}
use Rattle.tu_type_operands.specs.Names.{entity_at, form_of}
use Rattle.tu_type_parts.specs.Expressions.{expr}

-- the value of a constant expression at m
abbrev pub value_at : Mark → Constant → Checked ℤ
value_at m x = elim (number_in x) [ None ↦ fault NotConstant m | Some z ↦ Good z ]

-- int or an enumeration, of which there are ranges
abbrev pub range_root : Mark → Value → Checked ℕ
range_root m (Number root e) = asks (not (root == boolean)) Mismatch m ⊳ λ _. Good root
range_root m other = fault Mismatch m

-- a lower bound: its root and its value
abbrev pub lower_bound : Mark → Operand → Checked (ℕ × ℤ)
lower_bound m a = range_root m (value_of a) ⊳ λ root. value_at m a.constant ⊳ λ low. Good (root, low)

-- an upper bound behind a lower one
abbrev pub upper_bound : Mark → Operand → ℕ × ℤ → Checked TypeForm
upper_bound n b lower =
    number_of lower.0 n (value_of b) ⊳ λ _. value_at n b.constant ⊳ λ high. asks (int_le lower.1 high) OutOfRange n ⊳ λ _. Good (Subrange lower.0 lower.1 high)

-- the type from one bound to another
abbrev pub bounds : (m n : Mark) → Operand × Operand → Checked TypeForm
bounds m n z = lower_bound m z.0 ⊳ upper_bound n z.1

-- a string's size, from 1 to 255
abbrev pub size : Mark → Operand → Checked ℕ
size m a = number_of int m (value_of a) ⊳ λ _. value_at m a.constant ⊳ λ z. asks (int_le (pos 1) z && int_le z (pos MOST_TEXT_BYTES)) OutOfRange m ⊳ λ _. Good (unsigned_abs z)

-- a label of a type with this root and these values
abbrev pub label : (root : ℕ) → Span → Mark × Operand → Checked ℤ
label root span x =
    number_of root x.0 (value_of x.1) ⊳ λ _. value_at x.0 x.1.constant ⊳ λ z. asks (int_le span.low z && int_le z span.high) OutOfRange x.0 ⊳ λ _. Good z

abbrev pub labels : (root : ℕ) → Span → List (Mark × Operand) → Checked (List ℤ)
labels root span [] = Good []
labels root span (x ∷ more) = both (label root span x) (labels root span more) ⊳ λ z. Good (z.0 ∷ z.1)

-- a state with a type more, and the type's number
abbrev pub with_type : State → TypeForm → State × ℕ
with_type s form = let z = numbered s.types s.around.home form in (record s { types = z.0 }, z.1)

-- subranges and enumerations are index types
abbrev pub is_index_type : TypeForm → Bool
is_index_type (Subrange root low high) = true
is_index_type (Enumeration written values) = true
is_index_type form = false

module _ (s : State) where
  abbrev pub type_by : Mark → Option Entity → Checked ℕ
  type_by m (Some (TypeName n)) = Good n
  type_by m other = fault Mismatch m

  -- the type that a name stands for, also one that a module exports; as it is written, which may be seen through here
  abbrev pub named_type : Of r-name → Checked ℕ
  named_type (NameOf m name Absent) = type_by m (entity_at s (start_of name))
  named_type (NameOf m first (Present (Behind _ name))) = type_by m (entity_at s (start_of name))

  abbrev pub index_type : Of r-name → Checked ℕ
  index_type x = named_type x ⊳ λ n. asks (is_index_type (form_of s n)) Mismatch (mark_of x) ⊳ λ _. Good n

  -- an index type, by its bounds or its name
  abbrev pub range : Of r-range → Checked (State × ℕ)
  range (BoundedRange m from _ to) = both (expr s from) (expr s to) ⊳ bounds (mark_of from) (mark_of to) ⊳ λ form. Good (with_type s form)
  range (NamedRange m name) = index_type name ⊳ λ n. Good (s, n)
