-- What holds of the definitions beside their own equations.
use Rattle.std.specs.Prelude.{◌≡◌, ◌<◌, ◌≤◌, ℕ, zero, suc, ◌+◌, ◌*◌, Bool, true, false, if◌then◌else◌}
use Rattle.tu_base.specs.Heap.{Heap, empty_heap, is_live, with_element, without_element}

-- the sum of the first n values of a function
abbrev pub sum_below : (ℕ → ℕ) → (n : ℕ) → ℕ
sum_below f zero = 0
sum_below f (suc n) = sum_below f n + f n

-- how many numbers below n pass a test
abbrev pub count_below : (ℕ → Bool) → (n : ℕ) → ℕ
count_below test n = sum_below (λ k. if test k then 1 else 0) n

-- Of n collections with elements of so many words: what the heap has taken is the sum of each peak times the words of an element and two,
-- and each collection counts its living elements, which are of those that were made.
pub record IsCounted (words : ℕ → ℕ) (n : ℕ) (heap : Heap) : Type 0 where
  pub taken : heap.taken ≡ sum_below (λ c. (heap.collections c).peak * (words c + 2)) n
  pub live : (c : ℕ) → (heap.collections c).live ≡ count_below (is_live heap c) (heap.made + 1)
  pub peak : (c : ℕ) → (heap.collections c).live ≤ (heap.collections c).peak
  pub made : (c creation : ℕ) → heap.made < creation → is_live heap c creation ≡ false

-- The heap is counted at first, and stays so where an element is made, and where one that lives is removed.
pub record HeapIsCounted : Type 0 where
  pub empty : (words : ℕ → ℕ) (n : ℕ) → IsCounted words n empty_heap
  pub made : (words : ℕ → ℕ) (n c : ℕ) (heap : Heap) → c < n → IsCounted words n heap → IsCounted words n (with_element c (words c) heap)
  pub removed : (words : ℕ → ℕ) (n c creation : ℕ) (heap : Heap) → is_live heap c creation ≡ true → IsCounted words n heap → IsCounted words n (without_element c creation heap)
