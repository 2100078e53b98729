-- Written types.
use Rattle.std.specs.Prelude.{ℕ, Bool, true, false, List, [], ◌∷◌, ◌++◌, map, ℤ, nat_le, Option, Some, None}
use Rattle.grammar.specs.Description.{Description, rule}
use Rattle.grammar.specs.Tree.{Mark}
use Rattle.tu_base.specs.Shapes.{span_length}
use Rattle.tu_core.specs.Core.{Scalar}
use Rattle.tu_token.specs.declared.class.Class.TheVariants.{Name}
use Rattle.tu_token.specs.Rules.{Rule, r-expr, r-names, r-spec, r-index, r-base, r-range, r-name, r-field, r-variant, many, maybe, listed, t}
use Rattle.tu_token.specs.Syntax.{Of}
use Rattle.tu_expr.specs.Parts.{Part, further, mark_of, text_of, start_of, line_of}
use Rattle.tu_tree.specs.TypeViews.{named, arrays, sizes}
use Rattle.tu_tree.specs.Forms.{Present, Absent, More, NoMore, Behind, Listed, Names, Spec, ArrayOf as ArrayList, BoundedIndex, OpenIndex, NamedIndex, BoundedRange, NamedRange, IntType, BooleanType, StringType, MostSize, OpenSize, RangeType, EnumType, SetType, PointerType, RecordType, UnionType, NameOf, Field as FieldNode, Variant as VariantNode}
use Rattle.tu_type_base.specs.declared.fault.FaultKind.TheVariants.{Misplaced, Mismatch, OutOfRange}
use Rattle.tu_type_base.specs.Checked.{Checked, Good, fault, both, ◌⊳◌, asks}
use Rattle.tu_type_constants.specs.Constants.{number_in}
use Rattle.tu_type_table.specs.declared.types.Field.{Field}
use Rattle.tu_type_table.specs.declared.types.Variant.{Variant}
use Rattle.tu_type_table.specs.declared.types.TypeForm.TheVariants.{Enumeration, String, SetOf, PointerTo, ArrayOf, Record, Union}
use Rattle.tu_type_table.specs.Types.{Name as TypeName, root_of, span_of, int, boolean, string}
use Rattle.tu_type_operands.specs.declared.kind.Bounds.{Bounds}
use Rattle.tu_type_operands.specs.declared.kind.Bounds.TheVariants.{Within, From}
use Rattle.tu_type_operands.specs.declared.kind.Kind.{Kind}
use Rattle.tu_type_operands.specs.declared.kind.Kind.TheVariants.{Whole, AnyText, AnyArray}
use Rattle.tu_type_operands.specs.Operands.{Operand, at_mark, number_of, value_of}
use Rattle.tu_type_operands.specs.declared.names.Entity.{Entity}
use Rattle.tu_type_operands.specs.declared.names.Entity.TheVariants.{CollectionName}
use Rattle.tu_type_operands.specs.declared.state.State.{State}
use Rattle.tu_type_operands.specs.Names.{entity_at, here}
use Rattle.tu_type_parts.specs.Expressions.{expr}
use Rattle.tu_type_parts.specs.Ranges.{lower_bound, upper_bound, bounds, size, labels, with_type, named_type, index_type, range}

-- The most members of a set's base.
abbrev pub most_members : ℕ
most_members = 1024

-- What a type is written for. A formal's own type may have a `*`, and a variable's own array may have run-time upper bounds.
pub data Purpose : Type 0 where
  ForFormal : Purpose
  ForVariable : Purpose
  ForOther : Purpose

-- a name in a list
pub record Named : Type 0 where
  pub text : TypeName
  pub at : Mark

abbrev pub name_at : Part (t Name) → Named
name_at x = record { text = text_of x; at = record { number = 0; start = start_of x; line = line_of x } }

abbrev pub more_names : Part (many named) → List Named
more_names NoMore = []
more_names (More (Behind _ x) more) = name_at x ∷ more_names more

abbrev pub names_of : Of r-names → List Named
names_of (Names m first more) = name_at first ∷ more_names more

abbrev pub fields_named : (type : ℕ) → List Named → List Field
fields_named n [] = []
fields_named n (x ∷ more) = record { name = x.text; type_number = n } ∷ fields_named n more

-- An index, with its upper bound where that is evaluated.
pub record Indexed : Type 0 where
  pub bounds : Bounds
  pub upper : List Scalar

abbrev pub known_index : (type : ℕ) → Indexed
known_index n = record { bounds = Within n; upper = [] }

-- what is written: its kind, with the upper bounds that are evaluated
pub record Written : Type 0 where
  pub kind : Kind
  pub uppers : List Scalar

abbrev pub whole : (type : ℕ) → Written
whole n = record { kind = Whole n; uppers = [] }

-- a type of the table; no other stands at m
abbrev pub type_at : Mark → Kind → Checked ℕ
type_at m (Whole n) = Good n
type_at m other = fault Misplaced m

-- the index types, where all bounds are known
abbrev pub all_within : List Indexed → Option (List ℕ)
all_within [] = Some []
all_within (x ∷ more) = elim x.bounds [
  | From root low ↦ None
  | Within n ↦ elim (all_within more) [ None ↦ None | Some others ↦ Some (n ∷ others) ]
]

abbrev pub all_uppers : List Indexed → List Scalar
all_uppers [] = []
all_uppers (x ∷ more) = x.upper ++ all_uppers more

abbrev pub with_array : State → (indexes : List ℕ) → (component : ℕ) → State × ℕ
with_array s indexes component = with_type s (ArrayOf indexes component)

-- arrays of arrays, the innermost last
abbrev pub with_arrays : State → List (List ℕ) → (component : ℕ) → State × ℕ
with_arrays s [] n = (s, n)
with_arrays s (indexes ∷ more) n = let z = with_arrays s more n in with_array z.0 indexes z.1

abbrev pub whole_type : State × ℕ → State × Written
whole_type z = (z.0, whole z.1)

-- an array over its first list of indexes
abbrev pub with_first : List Indexed → State × ℕ → State × Written
with_first indexes z = elim (all_within indexes) [
  | Some types ↦ whole_type (with_array z.0 types z.1)
  | None ↦ (z.0, record { kind = AnyArray (map (λ x. x.bounds) indexes) z.1; uppers = all_uppers indexes })
]

-- an upper bound of a variable's own array: one that is no constant expression, or would raise, is evaluated
abbrev pub run_time_bound : State → Mark → Operand → ℕ × ℤ → Checked (State × Indexed)
run_time_bound s n b lower = elim (number_in b.constant) [
  | None ↦ number_of lower.0 n (value_of b) ⊳ λ e. Good (s, record { bounds = From lower.0 lower.1; upper = e ∷ [] })
  | Some z ↦ upper_bound n b lower ⊳ λ form. let z = with_type s form in Good (z.0, known_index z.1)
]

abbrev pub bounded_index : Purpose → State → (m n : Mark) → Operand × Operand → Checked (State × Indexed)
bounded_index ForVariable s m n z = lower_bound m z.0 ⊳ run_time_bound s n z.1
bounded_index other s m n z = bounds m n z ⊳ λ form. let z = with_type s form in Good (z.0, known_index z.1)

-- a bound that is left open, which a formal alone may have
abbrev pub star_index : (is_allowed : Bool) → State → (star : Mark) → ℕ × ℤ → Checked (State × Indexed)
star_index is_allowed s star lower = asks is_allowed Misplaced star ⊳ λ _. Good (s, record { bounds = From lower.0 lower.1; upper = [] })

abbrev pub index : Purpose → (is_allowed : Bool) → State → Of r-index → Checked (State × Indexed)
index purpose is_allowed s (BoundedIndex m from _ to) = both (expr s from) (expr s to) ⊳ bounded_index purpose s (mark_of from) (mark_of to)
index purpose is_allowed s (OpenIndex m from _ star) = expr s from ⊳ lower_bound (mark_of from) ⊳ star_index is_allowed s (mark_of star)
index purpose is_allowed s (NamedIndex m name) = index_type s name ⊳ λ n. Good (s, known_index n)

abbrev pub more_indexes : Purpose → State → Part (many (further r-index)) → Checked (State × List Indexed)
more_indexes purpose s NoMore = Good (s, [])
more_indexes purpose s (More (Behind _ x) more) = index purpose false s x ⊳ λ a. more_indexes purpose a.0 more ⊳ λ b. Good (b.0, a.1 ∷ b.1)

abbrev pub is_for_formal : Purpose → Bool
is_for_formal ForFormal = true
is_for_formal other = false

-- A `*` is the bound of the only index of a formal's first list.
abbrev pub index_list : Purpose → State → Part (listed r-index) → Checked (State × List Indexed)
index_list purpose s (Listed first NoMore) = index purpose (is_for_formal purpose) s first ⊳ λ a. Good (a.0, a.1 ∷ [])
index_list purpose s (Listed first more) = index purpose false s first ⊳ λ a. more_indexes purpose a.0 more ⊳ λ b. Good (b.0, a.1 ∷ b.1)

abbrev pub index_types : Mark → List Indexed → Checked (List ℕ)
index_types m xs = elim (all_within xs) [ None ↦ fault Misplaced m | Some types ↦ Good types ]

abbrev pub first_mark : Part (listed r-index) → Mark
first_mark (Listed x more) = mark_of x

-- the lists of indexes behind the first
abbrev pub index_lists : State → Part (many arrays) → Checked (State × List (List ℕ))
index_lists s NoMore = Good (s, [])
index_lists s (More (ArrayList _ indexes _) more) = index_list ForOther s indexes ⊳ λ a. index_types (first_mark indexes) a.1 ⊳ λ types. index_lists a.0 more ⊳ λ b. Good (b.0, types ∷ b.1)

-- the size of a string
abbrev pub string_size : Purpose → State → Part (maybe sizes) → Checked (State × Written)
string_size purpose s Absent = Good (s, whole string)
string_size purpose s (Present (MostSize _ e _)) = expr s e ⊳ size (mark_of e) ⊳ λ n. Good (whole_type (with_type s (String n)))
string_size purpose s (Present (OpenSize _ star _)) = asks (is_for_formal purpose) Misplaced (mark_of star) ⊳ λ _. Good (s, record { kind = AnyText; uppers = [] })

-- a type by its name, or a range
abbrev pub range_spec : State → Of r-range → Checked (State × ℕ)
range_spec s (NamedRange m name) = named_type s name ⊳ λ n. Good (s, n)
range_spec s (BoundedRange m from sign to) = range s (BoundedRange m from sign to)

abbrev pub set_over : Mark → State × ℕ → Checked (State × Written)
set_over m z = asks (nat_le (span_length (span_of z.0.types z.1)) most_members) OutOfRange m ⊳ λ _. Good (whole_type (with_type z.0 (SetOf z.1)))

-- pointers to a collection, whose name is noted
abbrev pub pointer_to : State → Mark → Option Entity → Checked (State × Written)
pointer_to s m (Some (CollectionName c)) = Good (whole_type (with_type (record s { mentions = s.mentions ++ (at_mark m, c) ∷ [] }) (PointerTo c)))
pointer_to s m other = fault Mismatch m

abbrev pub last_start : Of r-name → ℕ
last_start (NameOf m name Absent) = start_of name
last_start (NameOf m first (Present (Behind _ name))) = start_of name

abbrev pub tag_name : Part (maybe (t Name)) → Option TypeName
tag_name Absent = None
tag_name (Present name) = Some (text_of name)

abbrev pub exprs_more : State → Part (many (further r-expr)) → Checked (List (Mark × Operand))
exprs_more s NoMore = Good []
exprs_more s (More (Behind _ e) more) = both (expr s e) (exprs_more s more) ⊳ λ z. Good ((mark_of e, z.0) ∷ z.1)

-- listed expressions with their places
abbrev pub exprs : State → Part (listed r-expr) → Checked (List (Mark × Operand))
exprs s (Listed e more) = both (expr s e) (exprs_more s more) ⊳ λ z. Good ((mark_of e, z.0) ∷ z.1)

-- The labels of a variant are constant expressions of the tag's type. A variant without labels is the last.
abbrev pub variant_labels : State → (tag : ℕ) → (variant : Mark) → (is_last : Bool) → Part (maybe (listed r-expr)) → Checked (List ℤ)
variant_labels s tag m is_last Absent = asks is_last Misplaced m ⊳ λ _. Good []
variant_labels s tag m is_last (Present es) = exprs s es ⊳ labels (root_of s.types (here s tag)) (span_of s.types tag)

abbrev pub is_end : {d : Description Rule} → Part (many d) → Bool
is_end NoMore = true
is_end (More x more) = false

abbrev mutual
  -- An array's component is written behind its indexes; `*` and run-time bounds stand in the first list alone.
  pub spec : Purpose → State → Of r-spec → Checked (State × Written)
  spec purpose s (Spec m NoMore x) = base purpose s x
  spec purpose s (Spec m (More (ArrayList _ first _) more) x) =
      index_list purpose s first ⊳ λ a. index_lists a.0 more ⊳ λ b. base ForOther b.0 x ⊳ λ c. type_at (mark_of x) c.1.kind ⊳ λ n. Good (with_first a.1 (with_arrays c.0 b.1 n))

  pub base : Purpose → State → Of r-base → Checked (State × Written)
  base purpose s (IntType m _) = Good (s, whole int)
  base purpose s (BooleanType m _) = Good (s, whole boolean)
  base purpose s (StringType m _ x) = string_size purpose s x
  base purpose s (RangeType m x) = range_spec s x ⊳ λ z. Good (whole_type z)
  base purpose s (EnumType m _ _ names _) = Good (whole_type (with_type s (Enumeration m.number (map (λ x. x.text) (names_of names)))))
  base purpose s (SetType m _ _ x) = range s x ⊳ set_over (mark_of x)
  base purpose s (PointerType m _ _ name) = pointer_to s (mark_of name) (entity_at s (last_start name))
  base purpose s (RecordType m _ first more _ _) = field s first ⊳ λ a. fields a.0 more ⊳ λ b. Good (whole_type (with_type b.0 (Record m.number (a.1 ++ b.1))))
  base purpose s (UnionType m _ tag _ x _ more _ _) = range s x ⊳ λ a. variants a.1 a.0 more ⊳ λ b. Good (whole_type (with_type b.0 (Union m.number (tag_name tag) a.1 b.1)))

  pub field : State → Of r-field → Checked (State × List Field)
  field s (FieldNode m names _ x _) = spec ForOther s x ⊳ λ z. type_at (mark_of x) z.1.kind ⊳ λ n. Good (z.0, fields_named n (names_of names))

  pub fields : State → Part (many (rule r-field)) → Checked (State × List Field)
  fields s NoMore = Good (s, [])
  fields s (More x more) = field s x ⊳ λ a. fields a.0 more ⊳ λ b. Good (b.0, a.1 ++ b.1)

  pub variants : (tag : ℕ) → State → Part (many (rule r-variant)) → Checked (State × List Variant)
  variants tag s NoMore = Good (s, [])
  variants tag s (More x more) = variant tag (is_end more) s x ⊳ λ a. variants tag a.0 more ⊳ λ b. Good (b.0, a.1 ∷ b.1)

  pub variant : (tag : ℕ) → (is_last : Bool) → State → Of r-variant → Checked (State × Variant)
  variant tag is_last s (VariantNode m _ es _ more) = variant_labels s tag m is_last es ⊳ λ ls. fields s more ⊳ λ z. Good (z.0, record { labels = ls; fields = z.1 })

-- a type that is no formal's and no variable's own
abbrev pub whole_spec : State → Of r-spec → Checked (State × ℕ)
whole_spec s x = spec ForOther s x ⊳ λ z. type_at (mark_of x) z.1.kind ⊳ λ n. Good (z.0, n)
