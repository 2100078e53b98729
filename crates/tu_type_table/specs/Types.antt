-- Types by their numbers, in a table that only grows. A type that is written again gets the number that it has, and a written enumeration,
-- record or union is the same as itself alone. A type names lower numbers, so that none is spelled out twice.
use Rattle.std.specs.Prelude.{ℕ, suc, ◌==◌, Bool, true, false, ◌&&◌, List, [], ◌∷◌, ◌++◌, length, map, min, slice_get, sum_by, nat_lt, pos, neg_ℤ, Option, Some, None, if◌then◌else◌}
use Rattle.tu_base.specs.declared.limits.TheConstants.{MOST_INT, MOST_TEXT_BYTES}
use Rattle.tu_base.specs.declared.shape.Span.{Span}
use Rattle.tu_base.specs.declared.shape.Variant.{Variant as ShapeVariant}
use Rattle.tu_base.specs.declared.shape.Shape.{Shape}
use Rattle.tu_base.specs.declared.shape.Shape.TheVariants.{Scalar as scalar_shape, Text as text_shape, Set as set_shape, Pointer as pointer_shape, Array as array_shape, Record as record_shape, Union as union_shape}
use Rattle.tu_base.specs.Scalars.{are_equal}
use Rattle.tu_base.specs.Shapes.{span_length, words_of}
use Rattle.tu_base.specs.Sets.{Base}
use Rattle.tu_type_table.specs.declared.limits.TheConstants.{MOST_WORDS, MOST_PARTS}
use Rattle.tu_type_table.specs.declared.types.Field.{Field}
use Rattle.tu_type_table.specs.declared.types.Variant.{Variant}
use Rattle.tu_type_table.specs.declared.types.TypeForm.{TypeForm}
use Rattle.tu_type_table.specs.declared.types.TypeForm.TheVariants.{Int, Boolean, Subrange, Enumeration, String, SetOf, PointerTo, ArrayOf, Record, Union, Opaque}
use Rattle.tu_type_table.specs.declared.types.Row.{Row}

-- the bytes of a name
abbrev pub Name : Type 0
Name = List ℕ

abbrev pub are_same_numbers : List ℕ → List ℕ → Bool
are_same_numbers [] [] = true
are_same_numbers (x ∷ xs) (y ∷ ys) = (x == y) && are_same_numbers xs ys
are_same_numbers xs ys = false

-- both int, both boolean, subranges with equal root and bounds, strings of one size, sets with one base, pointers to one collection, arrays
-- with the same index types and component type, or the same written type
abbrev pub are_same : TypeForm → TypeForm → Bool
are_same Int Int = true
are_same Boolean Boolean = true
are_same (Subrange r a b) (Subrange s c d) = (r == s) && (are_equal a c && are_equal b d)
are_same (Enumeration m values) (Enumeration n others) = m == n
are_same (String m) (String n) = m == n
are_same (SetOf a) (SetOf b) = a == b
are_same (PointerTo c) (PointerTo d) = c == d
are_same (ArrayOf is a) (ArrayOf js b) = are_same_numbers is js && (a == b)
are_same (Record m fields) (Record n others) = m == n
are_same (Union m tag_name tag variants) (Union n other_name other others) = m == n
are_same (Opaque m) (Opaque n) = m == n
are_same a b = false

-- the numbers of int, boolean and string in every table
abbrev pub int : ℕ
int = 0

abbrev pub boolean : ℕ
boolean = 1

abbrev pub string : ℕ
string = 2

-- the most words of a type, and of all globals
abbrev pub most_words : ℕ
most_words = MOST_WORDS

-- the most index types in one list of an array, and the most labels of a union
abbrev pub most_parts : ℕ
most_parts = MOST_PARTS

abbrev pub limited : ℕ → ℕ
limited n = min n (suc most_words)

abbrev pub no_row : Row
no_row = record { form = Int; home = None; inside = int; bare = int; words = 1 }

module _ (types : List Row) where
  abbrev pub row_at : ℕ → Row
  row_at n = elim (slice_get types n) [ Some row ↦ row | None ↦ no_row ]

  abbrev pub bare_of : ℕ → ℕ
  bare_of n = (row_at n).bare

  -- what a type is once all opaque types are seen through
  abbrev pub bare_form : ℕ → TypeForm
  bare_form n = (row_at (bare_of n)).form

  -- int for a subrange of it, and an enumeration for one of its own
  abbrev pub root_of_form : (number : ℕ) → TypeForm → ℕ
  root_of_form n (Subrange root low high) = root
  root_of_form n other = n

  abbrev pub root_of : ℕ → ℕ
  root_of n = root_of_form n (row_at n).form

  -- the numbers that stand for the values of a scalar type
  abbrev pub span_of_form : TypeForm → Span
  span_of_form Int = record { low = neg_ℤ (pos MOST_INT); high = pos MOST_INT }
  span_of_form (Subrange root low high) = record { low = low; high = high }
  span_of_form (Enumeration written []) = record { low = pos 0; high = pos 0 }
  span_of_form (Enumeration written (value ∷ more)) = record { low = pos 0; high = pos (length more) }
  span_of_form other = record { low = pos 0; high = pos 1 }

  abbrev pub span_of : ℕ → Span
  span_of n = span_of_form (bare_form n)

  -- the numbers of a set over a type
  abbrev pub base_of : ℕ → Base
  base_of n = record { low = (span_of n).low; members = span_length (span_of n) }

  abbrev pub field_shapes : List Field → List ℕ
  field_shapes fields = map (λ f. bare_of f.type_number) fields

  abbrev pub variant_shape : Variant → ShapeVariant
  variant_shape v = record { labels = v.labels; fields = field_shapes v.fields }

  -- the shape of a type that is not opaque; an opaque one has that of the type that it is
  abbrev pub shape_of_form : TypeForm → Shape
  shape_of_form (String most) = text_shape most
  shape_of_form (SetOf base) = set_shape (span_of base).low (span_length (span_of base))
  shape_of_form (PointerTo collection) = pointer_shape collection
  shape_of_form (ArrayOf indexes component) = array_shape (map span_of indexes) (bare_of component)
  shape_of_form (Record written fields) = record_shape (field_shapes fields)
  shape_of_form (Union written tag_name tag variants) = union_shape (bare_of tag) (map variant_shape variants)
  shape_of_form scalar = scalar_shape (span_of_form scalar)

  abbrev pub count_labels : List Variant → ℕ
  count_labels variants = sum_by (λ v. length v.labels) variants

  -- too many index types in one list, or too many labels
  abbrev pub is_wide : TypeForm → Bool
  is_wide (ArrayOf indexes component) = nat_lt most_parts (length indexes)
  is_wide (Union written tag_name tag variants) = nat_lt most_parts (count_labels variants)
  is_wide other = false

  -- A type that is too wide counts as one of too many words.
  abbrev pub words_of_form : TypeForm → ℕ
  words_of_form form = if is_wide form then suc most_words else limited (words_of (map (λ row. row.words) types) (shape_of_form form))

  -- the type with other numbers for the types in it
  abbrev pub with_parts : (ℕ → ℕ) → TypeForm → TypeForm
  with_parts new (SetOf base) = SetOf (new base)
  with_parts new (ArrayOf indexes component) = ArrayOf (map new indexes) (new component)
  with_parts new other = other

  abbrev pub found_from : TypeForm → (number : ℕ) → List Row → Option ℕ
  found_from form n [] = None
  found_from form n (row ∷ more) = elim (are_same form row.form) [ true ↦ Some n | false ↦ found_from form (suc n) more ]

  abbrev pub own_or : Option ℕ → ℕ
  own_or None = length types
  own_or (Some n) = n

  abbrev pub words_or : TypeForm → (bare : Option ℕ) → ℕ
  words_or form None = words_of_form form
  words_or form (Some n) = (row_at n).words

  -- a type with what it is inside and bare, where it is not itself there
  abbrev pub entered : (home : Option ℕ) → TypeForm → (inside bare : Option ℕ) → List Row × ℕ
  entered home form inside bare =
      elim (found_from form 0 types) [
        | Some n ↦ (types, n)
        | None ↦ (types ++ record { form = form; home = home; inside = own_or inside; bare = own_or bare; words = words_or form bare } ∷ [], length types)
      ]

abbrev pub is_home : (home at : Option ℕ) → Bool
is_home (Some m) (Some n) = m == n
is_home home at = false

-- what a type is at a place with this module around it
abbrev pub seen : List Row → (at : Option ℕ) → ℕ → ℕ
seen types at n = if is_home (row_at types n).home at then (row_at types n).inside else n

-- The number of a type, and the table with it: what it is bare and inside stand before it.
abbrev pub numbered : List Row → (home : Option ℕ) → TypeForm → List Row × ℕ
numbered types home form =
    let bare = entered types home (with_parts types (bare_of types) form) None None in
    let inside = entered bare.0 home (with_parts types (seen types home) form) None (Some bare.1) in
    entered inside.0 home form (Some inside.1) (Some bare.1)

-- a new opaque type, which its own module sees through
abbrev pub numbered_opaque : List Row → (home : Option ℕ) → (written : ℕ) → ℕ → List Row × ℕ
numbered_opaque types home written n = entered types home (Opaque written) (Some (seen types home n)) (Some (bare_of types n))

-- the table that every program begins with
abbrev pub first_types : List Row
first_types = ((numbered ((numbered ((numbered [] None Int).0) None Boolean).0) None (String MOST_TEXT_BYTES)).0)

-- the shapes of the core, by the numbers of the types
abbrev pub shapes_of : List Row → List Shape
shapes_of types = map (λ row. shape_of_form types (row_at types row.bare).form) types

abbrev pub passes : (words : ℕ) → Bool
passes n = nat_lt most_words n
