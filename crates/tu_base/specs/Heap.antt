-- The elements of collections, as they live and die.
use Rattle.std.specs.Prelude.{ℕ, ◌+◌, ◌-◌, ◌==◌, Bool, true, false, ◌&&◌, nat_le, nat_lt, max, Option, Some, None, if◌then◌else◌}
use Rattle.tu_base.specs.declared.limits.TheConstants.{HEAP_WORDS, MOST_INT}

-- which creation numbers live, how many these are, and how many there were at most
pub record Collection : Type 0 where
  pub lives : (creation : ℕ) → Bool
  pub live : ℕ
  pub peak : ℕ

-- all collections, how many elements were made in all, and the sum over collections of the peak times the words of an element and two
pub record Heap : Type 0 where
  pub collections : ℕ → Collection
  pub made : ℕ
  pub taken : ℕ

abbrev pub empty_collection : Collection
empty_collection = record { lives = λ k. false; live = 0; peak = 0 }

abbrev pub empty_heap : Heap
empty_heap = record { collections = λ c. empty_collection; made = 0; taken = 0 }

abbrev pub with_collection : ℕ → Collection → Heap → Heap
with_collection c new heap = record heap { collections = λ d. if d == c then new else heap.collections d }

abbrev pub is_live : Heap → (collection creation : ℕ) → Bool
is_live heap c creation = (heap.collections c).lives creation

-- the words of the heap that one element more brings about: none below the peak
abbrev pub grown : Collection → (words : ℕ) → ℕ
grown c words = if nat_lt c.live c.peak then 0 else words + 2

-- whether one element more of so many words can be made
abbrev pub has_room : (collection words : ℕ) → Heap → Bool
has_room c words heap = nat_lt heap.made MOST_INT && nat_le (heap.taken + grown (heap.collections c) words) HEAP_WORDS

abbrev pub made_in : (creation : ℕ) → Collection → Collection
made_in creation c = record { lives = λ k. if k == creation then true else c.lives k; live = c.live + 1; peak = max c.peak (c.live + 1) }

-- one element more, with the next creation number
abbrev pub with_element : (collection words : ℕ) → Heap → Heap
with_element c words heap = record (with_collection c (made_in (heap.made + 1) (heap.collections c)) heap) { made = heap.made + 1; taken = heap.taken + grown (heap.collections c) words }

-- what `new` makes, or nothing where there is no room
abbrev pub new_element : (collection words : ℕ) → Heap → Option ℕ × Heap
new_element c words heap = if has_room c words heap then (Some (heap.made + 1), with_element c words heap) else (None, heap)

abbrev pub removed_from : (creation : ℕ) → Collection → Collection
removed_from creation c = record c { lives = λ k. if k == creation then false else c.lives k; live = c.live - 1 }

-- a living element dies
abbrev pub without_element : (collection creation : ℕ) → Heap → Heap
without_element c creation heap = with_collection c (removed_from creation (heap.collections c)) heap
