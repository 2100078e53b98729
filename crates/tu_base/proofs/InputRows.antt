-- Worked rows of reading, of streams and of the heap.
use Rattle.std.proofs.Common.{◌≡◌, ℕ, true, false, List, [], ◌∷◌, pos, refl}
use Rattle.std.specs.Prelude.{codes, neg_ℤ, Option, Some, None}
use Rattle.tu_base.specs.declared.kind.Kind.TheVariants.{Range, StringSize, EndOfInput}
use Rattle.tu_base.specs.Trace.{Got, AtEnd, Keep}
use Rattle.tu_base.specs.Reading.{Source, source_of, token, line, count, look, reads, fails, shown, after_reading}
use Rattle.tu_base.specs.Streams.{Outside, outside_of, is_file_name, open_stream, close_stream, put_stream}
use Rattle.tu_base.specs.Heap.{empty_heap, has_room, with_element, without_element, new_element, is_live}

abbrev input : Source
input = source_of (codes "12 -7\n")

-- The first token takes its two bytes and the blank, and sees the byte behind. The second takes the line end too. Then the end is seen.
first : (token 255 input ≡ reads 3 true (codes "12")) × (shown input (token 255 input) ≡ Got 49 ∷ (Got 50 ∷ (Got 32 ∷ (Got 45 ∷ []))))
first = (refl, refl)

abbrev second_source : Source
second_source = after_reading input (token 255 input)

second : (token 255 second_source ≡ reads 3 false (codes "-7")) × (shown second_source (token 255 second_source) ≡ Got 55 ∷ (Got 10 ∷ []))
second = (refl, refl)

abbrev third_source : Source
third_source = after_reading second_source (token 255 second_source)

third : (token 255 third_source ≡ fails 0 true EndOfInput) × (shown third_source (token 255 third_source) ≡ AtEnd ∷ [])
third = (refl, refl)

-- An end that was seen is not shown again.
seen : shown (after_reading third_source (look third_source)) (token 255 (after_reading third_source (look third_source))) ≡ []
seen = refl

-- A token, a line and a count that are too long, an empty line, and a count of none. Of a long line the first byte that does not fit stays.
long : (token 2 (source_of (codes "abc")) ≡ fails 2 true StringSize)
    × (line 2 (source_of (codes "abc\n")) ≡ fails 2 true StringSize)
    × (line 3 (source_of (codes "abc\nd")) ≡ reads 4 false (codes "abc"))
    × (line 3 (source_of (codes "\n")) ≡ reads 1 false [])
    × (line 3 (source_of (codes "ab")) ≡ reads 2 true (codes "ab"))
    × (count 2 (pos 3) (source_of (codes "abc")) ≡ fails 0 false StringSize)
    × (count 5 (neg_ℤ (pos 1)) (source_of (codes "abc")) ≡ fails 0 false Range)
    × (count 5 (pos 4) (source_of (codes "abc")) ≡ reads 3 true (codes "abc"))
    × (count 5 (pos 3) (source_of (codes "abc")) ≡ reads 3 false (codes "abc"))
    × (count 5 (pos 0) (source_of []) ≡ reads 0 false [])
long = (refl, refl, refl, refl, refl, refl, refl, refl, refl, refl)

-- A number above 255 in the input counts as its remainder by 256.
remainders : line 3 (source_of (321 ∷ (4294967295 ∷ []))) ≡ reads 2 true (65 ∷ (255 ∷ []))
remainders = refl

names : (is_file_name (codes "../x") ≡ false) × (is_file_name (codes "a-b_1.txt") ≡ true) × (is_file_name [] ≡ false) × (is_file_name (codes "a/b") ≡ false)
names = (refl, refl, refl, refl)

abbrev no_file : List ℕ → Option (List ℕ)
no_file name = None

abbrev outside : Outside
outside = outside_of [] (Some no_file)

-- A file that is absent gives 0, one for `put` the least free number; its name is then taken; it is kept as it is closed.
streams : ((open_stream false (codes "a") outside).0 ≡ 0)
    × ((open_stream true (codes "a") outside).0 ≡ 1)
    × ((open_stream true (codes "a") (open_stream true (codes "a") outside).1).0 ≡ 0)
    × ((open_stream true (codes "b") (open_stream true (codes "a") outside).1).0 ≡ 2)
    × ((open_stream true (codes "a") (outside_of [] None)).0 ≡ 0)
    × ((close_stream (pos 1) outside).0 ≡ None)
    × ((close_stream (pos 1) (put_stream (pos 1) (codes "xy") (open_stream true (codes "a") outside).1).1).0 ≡ Some (Keep (codes "a") (codes "xy") ∷ []))
    × ((put_stream (pos 2) (codes "x") outside).0 ≡ false)
streams = (refl, refl, refl, refl, refl, refl, refl, refl)

-- What was kept can be read again.
again : (open_stream false (codes "a") (close_stream (pos 1) (open_stream true (codes "a") outside).1).1).0 ≡ 1
again = refl

-- An element of 4,194,302 words takes the whole heap, and one word more does not fit. The cell of one that was removed is used again.
room : (has_room 0 4194302 empty_heap ≡ true)
    × (has_room 0 4194303 empty_heap ≡ false)
    × (has_room 0 4194302 (with_element 0 4194302 empty_heap) ≡ false)
    × (has_room 0 4194302 (without_element 0 1 (with_element 0 4194302 empty_heap)) ≡ true)
    × (has_room 1 0 (with_element 0 4194302 empty_heap) ≡ false)
room = (refl, refl, refl, refl, refl)

-- A creation number is not given twice, and one that was removed lives no more.
creations : ((new_element 0 2 (without_element 0 1 (with_element 0 2 empty_heap))).0 ≡ Some 2)
    × (is_live (without_element 0 1 (with_element 0 2 empty_heap)) 0 1 ≡ false)
    × (is_live (with_element 0 2 (without_element 0 1 (with_element 0 2 empty_heap))) 0 1 ≡ false)
creations = (refl, refl, refl)
