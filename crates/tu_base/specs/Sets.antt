-- The operators on sets over a base of so many numbers, from low on. Each costs the words of the set.
use Rattle.std.specs.Prelude.{ℕ, zero, suc, Bool, true, false, not, ◌&&◌, ◌||◌, List, [], ◌∷◌, replicate, slice_index_or, ℤ, pos, ◌+ℤ◌, ◌-ℤ◌, unsigned_abs, int_le, int_lt, if◌then◌else◌}
use Rattle.tu_base.specs.declared.kind.Kind.TheVariants.{Range}
use Rattle.tu_base.specs.declared.operator.Relation.{Relation}
use Rattle.tu_base.specs.declared.operator.Combination.{Combination}
use Rattle.tu_base.specs.declared.operator.Combination.TheVariants.{Union, Intersection, Difference}
use Rattle.tu_base.specs.Shapes.{set_words}
use Rattle.tu_base.specs.Scalars.{Answer, Gives, Raises, by_order}

-- the numbers of a set's base: so many, from low on
pub record Base : Type 0 where
  pub low : ℤ
  pub members : ℕ

abbrev pub is_in_base : Base → ℤ → Bool
is_in_base base z = int_le base.low z && int_lt z (base.low +ℤ pos base.members)

abbrev pub place_in_base : Base → ℤ → ℕ
place_in_base base z = unsigned_abs (z -ℤ base.low)

abbrev pub empty_set : Base → List Bool
empty_set base = replicate base.members false

abbrev pub full_set : Base → List Bool
full_set base = replicate base.members true

abbrev pub set_true : ℕ → List Bool → List Bool
set_true k [] = []
set_true zero (m ∷ more) = true ∷ more
set_true (suc k) (m ∷ more) = m ∷ set_true k more

-- a set with one member more
abbrev pub with_member : Base → ℤ → List Bool → Answer (List Bool)
with_member base z members = if is_in_base base z then Gives (set_true (place_in_base base z) members) 0 else Raises Range 0

abbrev pub is_member : Base → ℤ → List Bool → Bool
is_member base z members = slice_index_or members (place_in_base base z) false

-- `in`, and `not in` where is_wanted is false
abbrev pub membership : Base → (is_wanted : Bool) → ℤ → List Bool → Answer Bool
membership base is_wanted z members =
    if is_in_base base z then Gives (if is_wanted then is_member base z members else not (is_member base z members)) (set_words base.members) else Raises Range 0

-- member by member
abbrev pub zipped : (Bool → Bool → Bool) → List Bool → List Bool → List Bool
zipped f [] others = []
zipped f (a ∷ more) [] = []
zipped f (a ∷ more) (b ∷ others) = f a b ∷ zipped f more others

abbrev pub combination : Combination → Bool → Bool → Bool
combination Union a b = a || b
combination Intersection a b = a && b
combination Difference a b = a && not b

abbrev pub combined : Base → Combination → List Bool → List Bool → Answer (List Bool)
combined base operator a b = Gives (zipped (combination operator) a b) (set_words base.members)

-- each member of the one is one of the other
abbrev pub is_subset : List Bool → List Bool → Bool
is_subset [] others = true
is_subset (a ∷ more) [] = false
is_subset (a ∷ more) (b ∷ others) = (not a || b) && is_subset more others

-- whether a set is a part of another and not equal to it
abbrev pub is_proper_subset : List Bool → List Bool → Bool
is_proper_subset a b = is_subset a b && not (is_subset b a)

-- `=` and `not=`, and subset and superset, which are written `<=` and `>=`
abbrev pub set_compared : Relation → List Bool → List Bool → Bool
set_compared relation a b = by_order relation (is_proper_subset a b) (is_subset a b && is_subset b a) (is_proper_subset b a)

abbrev pub compare_sets : Base → Relation → List Bool → List Bool → Answer Bool
compare_sets base relation a b = Gives (set_compared relation a b) (set_words base.members)
