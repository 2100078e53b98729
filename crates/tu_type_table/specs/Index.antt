-- What is true of every table of types, and of the index that finds a type in it.
use Rattle.std.specs.Prelude.{◌≡◌, ◌<◌, ◌^◌, ℕ, suc, Bool, List, [], ◌∷◌, length, map, slice_get, ℤ, pos, Option, Some, None, Vec, if◌then◌else◌}
use Rattle.std.specs.declared.alloc.Global.{Global}
use Rattle.std.specs.BTreeMap.{BTreeMap}
use Rattle.std.specs.Map.{lookup}
use Rattle.std.specs.Ordering.{is_eq, int_cmp}
use Rattle.std.specs.Cmp.Lexicographic.{slice_cmp}
use Rattle.tu_type_table.specs.declared.types.TypeForm.{TypeForm}
use Rattle.tu_type_table.specs.declared.types.TypeForm.TheVariants.{Int, Boolean, Subrange, Enumeration, String, SetOf, PointerTo, ArrayOf, Record, Union, Opaque}
use Rattle.tu_type_table.specs.declared.types.Row.{Row}
use Rattle.tu_type_table.specs.Types.{Name, no_row, row_at}

-- Two types are the same where their keys are equal.
abbrev pub key_of : TypeForm → List ℤ
key_of Int = pos 0 ∷ []
key_of Boolean = pos 1 ∷ []
key_of (Subrange root low high) = pos 2 ∷ pos root ∷ low ∷ high ∷ []
key_of (Enumeration written values) = pos 3 ∷ pos written ∷ []
key_of (String most) = pos 4 ∷ pos most ∷ []
key_of (SetOf base) = pos 5 ∷ pos base ∷ []
key_of (PointerTo collection) = pos 6 ∷ pos collection ∷ []
key_of (ArrayOf indexes component) = pos 7 ∷ pos component ∷ map pos indexes
key_of (Record written fields) = pos 8 ∷ pos written ∷ []
key_of (Union written tag_name tag variants) = pos 9 ∷ pos written ∷ []
key_of (Opaque written) = pos 10 ∷ pos written ∷ []

abbrev pub is_key : List ℤ → List ℤ → Bool
is_key a b = is_eq (slice_cmp int_cmp a b)

-- the number of the first type with a key
abbrev pub number_from : (key : List ℤ) → (number : ℕ) → List Row → Option ℕ
number_from key n [] = None
number_from key n (row ∷ more) = if is_key key (key_of row.form) then Some n else number_from key (suc n) more

abbrev pub values_of : TypeForm → List Name
values_of (Enumeration written values) = values
values_of other = []

-- The numbers of an enumeration's values are ints.
abbrev pub IsSmall : TypeForm → Type 0
IsSmall form = length (values_of form) < 2 ^ 31

-- A table begins with int.
pub record IsTable (types : List Row) : Type 0 where
  pub begins : slice_get types 0 ≡ Some no_row
  pub small : (n : ℕ) → IsSmall (row_at types n).form

-- The index has the number of each type's key.
abbrev pub IsIndex : BTreeMap (Vec ℤ Global) ℕ → List Row → Type 0
IsIndex index types = (key : List ℤ) → lookup (λ (k : Vec ℤ Global). is_key key k.items) index.entries ≡ number_from key 0 types
