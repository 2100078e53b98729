-- What a place without parts takes, what an index of an array is, and when two of these are the same.
use Rattle.std.specs.Prelude.{ℕ, ◌==◌, Bool, true, false, ◌&&◌, List, [], ◌∷◌, Option, Some, None, is_none, ℤ, pos, neg_ℤ, int_le}
use Rattle.tu_base.specs.declared.limits.TheConstants.{MOST_INT}
use Rattle.tu_base.specs.declared.shape.Span.{Span}
use Rattle.tu_base.specs.declared.shape.Shape.{Shape}
use Rattle.tu_base.specs.declared.shape.Shape.TheVariants.{Scalar as scalar_shape, Text as text_shape, Set as set_shape, Pointer as pointer_shape, Array as array_shape, Record as record_shape, Union as union_shape}
use Rattle.tu_base.specs.Scalars.{are_equal}
use Rattle.tu_base.specs.Sets.{Base}
use Rattle.tu_core.specs.declared.targets.Index.{Index}
use Rattle.tu_core.specs.declared.targets.Index.TheVariants.{Known, Open}
use Rattle.tu_core.specs.declared.targets.Size.{Size}
use Rattle.tu_core.specs.declared.targets.Size.TheVariants.{Most, AtName}
use Rattle.tu_core.specs.declared.targets.Target.{Target}
use Rattle.tu_core.specs.declared.targets.Target.TheVariants.{TakesScalar, TakesText, TakesSet, TakesPointer}

abbrev pub ints : Span
ints = record { low = neg_ℤ (pos MOST_INT); high = pos MOST_INT }

-- the numbers of the truth values
abbrev pub truths : Span
truths = record { low = pos 0; high = pos 1 }

abbrev pub is_within : Span → ℤ → Bool
is_within s z = int_le s.low z && int_le z s.high

abbrev pub is_same_span : Span → Span → Bool
is_same_span a b = are_equal a.low b.low && are_equal a.high b.high

abbrev pub is_same_base : Base → Base → Bool
is_same_base a b = are_equal a.low b.low && (a.members == b.members)

abbrev pub is_same_size : Size → Size → Bool
is_same_size (Most n) (Most m) = n == m
is_same_size (Most n) AtName = false
is_same_size AtName (Most m) = false
is_same_size AtName AtName = true

abbrev pub is_same_target : Target → Target → Bool
is_same_target (TakesScalar a) (TakesScalar b) = is_same_span a b
is_same_target (TakesText a) (TakesText b) = is_same_size a b
is_same_target (TakesSet a) (TakesSet b) = is_same_base a b
is_same_target (TakesPointer c) (TakesPointer d) = c == d
is_same_target a b = false

abbrev pub is_scalar : Target → Bool
is_scalar (TakesScalar s) = true
is_scalar target = false

abbrev pub is_text : Target → Bool
is_text (TakesText size) = true
is_text target = false

abbrev pub is_set_of : Base → Target → Bool
is_set_of base target = is_same_target (TakesSet base) target

abbrev pub is_pointer_to : (collection : ℕ) → Target → Bool
is_pointer_to c target = is_same_target (TakesPointer c) target

-- the collection of a pointer
abbrev pub pointed_by : Option Target → Option ℕ
pointed_by (Some (TakesPointer c)) = Some c
pointed_by target = None

-- what a shape without parts takes
abbrev pub shape_target : Shape → Option Target
shape_target (scalar_shape s) = Some (TakesScalar s)
shape_target (text_shape most) = Some (TakesText (Most most))
shape_target (set_shape low members) = Some (TakesSet (record { low = low; members = members }))
shape_target (pointer_shape c) = Some (TakesPointer c)
shape_target (array_shape indexes component) = None
shape_target (record_shape fields) = None
shape_target (union_shape tag variants) = None

abbrev pub has_parts : Shape → Bool
has_parts s = is_none (shape_target s)

abbrev pub is_same_index : Index → Index → Bool
is_same_index (Known a) (Known b) = is_same_span a b
is_same_index (Known a) (Open low) = false
is_same_index (Open low) (Known b) = false
is_same_index (Open low) (Open other) = are_equal low other

abbrev pub are_same_indexes : List Index → List Index → Bool
are_same_indexes [] [] = true
are_same_indexes [] (j ∷ others) = false
are_same_indexes (i ∷ more) [] = false
are_same_indexes (i ∷ more) (j ∷ others) = is_same_index i j && are_same_indexes more others

-- whether an index takes these bounds: they are its own, or begin as it does
abbrev pub takes_span : Index → Span → Bool
takes_span (Known a) s = is_same_span a s
takes_span (Open low) s = are_equal low s.low

abbrev pub take_spans : List Index → List Span → Bool
take_spans [] [] = true
take_spans [] (s ∷ others) = false
take_spans (i ∷ more) [] = false
take_spans (i ∷ more) (s ∷ others) = takes_span i s && take_spans more others

-- the upper bounds that open indexes get from these bounds
abbrev pub upper_bounds : List Index → List Span → List ℤ
upper_bounds [] spans = []
upper_bounds (i ∷ more) [] = []
upper_bounds (Known a ∷ more) (s ∷ others) = upper_bounds more others
upper_bounds (Open low ∷ more) (s ∷ others) = s.high ∷ upper_bounds more others

-- indexes that are all known, and have these bounds
abbrev pub known_indexes : List Span → List Index
known_indexes [] = []
known_indexes (s ∷ more) = Known s ∷ known_indexes more

abbrev pub are_numbers : List ℤ → List ℤ → Bool
are_numbers [] [] = true
are_numbers [] (y ∷ others) = false
are_numbers (x ∷ more) [] = false
are_numbers (x ∷ more) (y ∷ others) = are_equal x y && are_numbers more others
