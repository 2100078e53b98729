-- Types that are numbered one after another.
use Rattle.std.specs.Prelude.{◌≡◌, List, [], ◌∷◌, pos, Some, None, refl}
use Rattle.tu_type_table.specs.declared.types.TypeForm.{TypeForm}
use Rattle.tu_type_table.specs.declared.types.TypeForm.TheVariants.{Subrange, ArrayOf, Union}
use Rattle.tu_type_table.specs.declared.types.Row.{Row}
use Rattle.tu_type_table.specs.Types.{first_types, numbered, numbered_opaque, row_at, seen, bare_of, root_of}

abbrev small_range : TypeForm
small_range = Subrange 0 (pos 1) (pos 10)

abbrev with_range : List Row
with_range = (numbered first_types None small_range).0

range_is_new : (numbered first_types None small_range).1 ≡ 3
range_is_new = refl

range_again : (numbered with_range None small_range).1 ≡ 3
range_again = refl

range_of_truth_values : (numbered with_range None (Subrange 1 (pos 1) (pos 10))).1 ≡ 4
range_of_truth_values = refl

root_of_range : root_of with_range 3 ≡ 0
root_of_range = refl

union_again : (numbered (numbered first_types None (Union 5 None 1 [])).0 None (Union 5 None 1 [])).1 ≡ 3
union_again = refl

union_written_apart : (numbered (numbered first_types None (Union 5 None 1 [])).0 None (Union 6 None 1 [])).1 ≡ 4
union_written_apart = refl

-- ten strings of 65 words
words_of_array : (row_at (numbered with_range None (ArrayOf (3 ∷ []) 2)).0 4).words ≡ 650
words_of_array = refl

-- 33 index types, of which 32 are the most
wide_array : (row_at (numbered first_types None (ArrayOf (1 ∷ 1 ∷ 1 ∷ 1 ∷ 1 ∷ 1 ∷ 1 ∷ 1 ∷ 1 ∷ 1 ∷ 1 ∷ 1 ∷ 1 ∷ 1 ∷ 1 ∷ 1 ∷ 1 ∷ 1 ∷ 1 ∷ 1 ∷ 1 ∷ 1 ∷ 1 ∷ 1 ∷ 1 ∷ 1 ∷ 1 ∷ 1 ∷ 1 ∷ 1 ∷ 1 ∷ 1 ∷ 1 ∷ []) 1)).0 3).words ≡ 4194305
wide_array = refl

abbrev with_opaque : List Row
with_opaque = (numbered_opaque first_types (Some 7) 9 2).0

opaque_at_home : seen with_opaque (Some 7) 3 ≡ 2
opaque_at_home = refl

opaque_elsewhere : seen with_opaque (Some 8) 3 ≡ 3
opaque_elsewhere = refl

opaque_bare : bare_of with_opaque 3 ≡ 2
opaque_bare = refl
