-- The words of each shape of a list.
use Rattle.std.specs.Prelude.{ℕ, suc, ◌+◌, ◌-◌, ◌*◌, ◌/◌, ◌==◌, Bool, true, false, ◌||◌, List, [], ◌∷◌, ◌++◌, length, slice_index, ℤ, ◌-ℤ◌, unsigned_abs, int_lt, max, sum_by, nat_lt, if◌then◌else◌}
use Rattle.std.specs.List.{list_any}
use Rattle.tu_base.specs.declared.shape.Span.{Span}
use Rattle.tu_base.specs.declared.shape.Variant.{Variant}
use Rattle.tu_base.specs.declared.shape.Shape.{Shape}
use Rattle.tu_base.specs.declared.shape.Shape.TheVariants.{Scalar, Text, Set, Pointer, Array, Record, Union}
use Rattle.tu_base.specs.Scalars.{are_equal}

-- how many numbers a span has
abbrev pub span_length : Span → ℕ
span_length s = if int_lt s.high s.low then 0 else unsigned_abs (s.high -ℤ s.low) + 1

-- how many elements an array has
abbrev pub elements : List Span → ℕ
elements [] = 1
elements (s ∷ more) = span_length s * elements more

-- The words of a text keep its length and four bytes each, those of a set whether it is set and thirty-two members each.
abbrev pub text_words : (most : ℕ) → ℕ
text_words most = 1 + (most + 3) / 4

abbrev pub set_words : (members : ℕ) → ℕ
set_words members = 1 + (members + 31) / 32

-- the words of a record, where those of its fields' shapes are known
abbrev pub field_words : (known : List ℕ) → (fields : List ℕ) → ℕ
field_words known fields = sum_by (slice_index known) fields

abbrev pub largest : (known : List ℕ) → List Variant → ℕ
largest known [] = 0
largest known (v ∷ more) = max (field_words known v.fields) (largest known more)

-- the words of a shape, where those of the shapes before it are known
abbrev pub words_of : (known : List ℕ) → Shape → ℕ
words_of known (Scalar s) = 1
words_of known (Text most) = text_words most
words_of known (Set low members) = set_words members
words_of known (Pointer collection) = 2
words_of known (Array indexes component) = elements indexes * slice_index known component
words_of known (Record fields) = field_words known fields
words_of known (Union tag variants) = 1 + largest known variants

-- A table of a list has an entry for each of its items, which is made of the entries before it.
abbrev pub table_behind : {A B : Type 0} → (entry : List B → A → B) → (known : List B) → List A → List B
table_behind entry known [] = known
table_behind entry known (x ∷ more) = table_behind entry (known ++ entry known x ∷ []) more

abbrev pub table : {A B : Type 0} → (entry : List B → A → B) → List A → List B
table entry xs = table_behind entry [] xs

-- the words of each shape of a list
abbrev pub all_words : List Shape → List ℕ
all_words shapes = table words_of shapes

-- An assignment, a start or a result costs the words of a shape that has more than one.
abbrev pub copy_words : ℕ → ℕ
copy_words words = if nat_lt 1 words then words else 0

-- whether a value of a shape has parts of its own
abbrev pub is_structured : Shape → Bool
is_structured (Scalar s) = false
is_structured (Text most) = false
is_structured (Set low members) = false
is_structured (Pointer collection) = false
is_structured (Array indexes component) = true
is_structured (Record fields) = true
is_structured (Union tag variants) = true

abbrev pub has_label : ℤ → Variant → Bool
has_label tag v = length v.labels == 0 || list_any (are_equal tag) v.labels

-- The variant that a tag selects, by its number. A label that stands in several belongs to the first.
abbrev pub selected : List Variant → (tag : ℤ) → ℕ
selected [] tag = 0
selected (v ∷ more) tag = if has_label tag v then 0 else suc (selected more tag)

-- The variant in which a component stands. Those of a union are numbered from 1 on through all variants; its tag is 0.
abbrev pub variant_of : List Variant → (component : ℕ) → ℕ
variant_of [] component = 0
variant_of (v ∷ more) component = if nat_lt (length v.fields) component then suc (variant_of more (component - length v.fields)) else 0
