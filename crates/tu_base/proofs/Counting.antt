-- What the heap has taken is the sum over its collections.
use Rattle.std.proofs.Common.{◌≡◌, ◌<◌, ◌≤◌, ℕ, zero, suc, ◌+◌, ◌-◌, ◌*◌, ◌==◌, Bool, true, false, refl, sym, ◌∙◌, ap, subst, arith, nat_lt, if◌then◌else◌}
use Rattle.std.specs.Prelude.{max}
use Rattle.std.proofs.lemmas.Bool.Decides.{nat_tests}
use Rattle.std.proofs.lemmas.Bool.{true≢false}
use Rattle.std.proofs.Math.Nat.{le-max_left, le-max_right, max-le}
use Rattle.tu_base.specs.Heap.{Collection, Heap, empty_heap, is_live, grown, made_in, removed_from, with_collection, with_element, without_element}
use Rattle.tu_base.specs.Laws.{sum_below, count_below, IsCounted, HeapIsCounted}

equal : (n c : ℕ) → (n == c) ≡ true → n ≡ c
equal n c e = grind (arith, nat_tests)

differs : (n c : ℕ) → n < c → (n == c) ≡ false
differs n c h = grind (arith, nat_tests)

beyond : (n c : ℕ) → c < n → (n == c) ≡ false
beyond n c h = grind (arith, nat_tests)

below : (n c : ℕ) → (n == c) ≡ false → c < suc n → c < n
below n c e h = grind (arith, nat_tests)

self : (c : ℕ) → (c == c) ≡ true
self c = grind (arith, nat_tests)

-- Two functions that agree at all places have equal sums, as they have where they agree but at a place behind.
unchanged_sum : (f g : ℕ → ℕ) (n : ℕ) → ((d : ℕ) → d < n → g d ≡ f d) → sum_below g n ≡ sum_below f n
unchanged_sum f g zero same = refl
unchanged_sum f g (suc n) same =
    let e = unchanged_sum f g n (λ d h. same d (omega (arith, h))) in
    let last = same n (omega arith) in
    omega (arith, e, last)

-- Two functions that agree but at one place have sums that differ by it.
changed_sum : (f g : ℕ → ℕ) (c n : ℕ) → c < n → ((d : ℕ) → (d == c) ≡ false → g d ≡ f d) → sum_below g n + f c ≡ sum_below f n + g c
changed_sum f g c zero h same = absurd (omega (arith, h))
changed_sum f g c (suc n) h same = by_test (λ k. changed_sum f g c n k same) (n == c) refl
  where
    by_test : (c < n → sum_below g n + f c ≡ sum_below f n + g c) → (b : Bool) → (n == c) ≡ b → sum_below g (suc n) + f c ≡ sum_below f (suc n) + g c
    by_test before true e =
        let p = equal n c e in
        let at_f = ap f p in
        let at_g = ap g p in
        let others = unchanged_sum f g n (λ d k. same d (differs d c (omega (arith, k, p)))) in
        omega (arith, at_f, at_g, others)
    by_test before false e =
        let others = before (below n c e h) in
        let last = same n e in
        omega (arith, others, last)

-- one for a test that holds
abbrev one_if : Bool → ℕ
one_if b = if b then 1 else 0

nothing_below : (n : ℕ) → count_below (λ k. false) n ≡ 0
nothing_below zero = refl
nothing_below (suc n) = let e = nothing_below n in omega (arith, e)

nothing_taken : (words : ℕ → ℕ) (n : ℕ) → sum_below (λ c. 0 * (words c + 2)) n ≡ 0
nothing_taken words zero = refl
nothing_taken words (suc n) = let e = nothing_taken words n in omega (arith, e)

-- What holds of a collection that is put in the place of another, and of all others, holds of each.
each_collection : (c : ℕ) (new : Collection) (heap : Heap) (P : ℕ → Collection → Type 0) → P c new → ((d : ℕ) → P d (heap.collections d)) → (d : ℕ) → P d ((with_collection c new heap).collections d)
each_collection c new heap P own others d = by_test (d == c) refl
  where
    by_test : (b : Bool) → (d == c) ≡ b → P d (if b then new else heap.collections d)
    by_test true e = subst (λ x. P x new) (sym (equal d c e)) own
    by_test false e = others d

-- a collection in its own place
own_place : (c : ℕ) (new : Collection) (heap : Heap) → (with_collection c new heap).collections c ≡ new
own_place c new heap = ap (λ b. if b then new else heap.collections c) (self c)

-- all others stay
other_place : (c d : ℕ) (new : Collection) (heap : Heap) → (d == c) ≡ false → (with_collection c new heap).collections d ≡ heap.collections d
other_place c d new heap e = ap (λ b. if b then new else heap.collections d) e

empty_is_counted : (words : ℕ → ℕ) (n : ℕ) → IsCounted words n empty_heap
empty_is_counted words n = record { taken = sym (nothing_taken words n); live = λ c. sym (nothing_below 1); peak = λ c. omega arith; made = λ c creation h. refl }

max_of_less : (a b : ℕ) → b ≤ a → max a b ≡ a
max_of_less a b h = let upper = max-le {a = a} {b = b} {k = a} (omega arith) h in let lower = le-max_left a b in omega (arith, upper, lower)

max_of_greater : (a b : ℕ) → a ≤ b → max a b ≡ b
max_of_greater a b h = let upper = max-le {a = a} {b = b} {k = b} h (omega arith) in let lower = le-max_right a b in omega (arith, upper, lower)

-- what one element more takes, beside the peak of before
one_more : (x : Collection) (words : ℕ) → x.live ≤ x.peak → grown x words + x.peak * (words + 2) ≡ max x.peak (x.live + 1) * (words + 2)
one_more x words h = by_test (nat_lt x.live x.peak) refl
  where
    by_test : (b : Bool) → nat_lt x.live x.peak ≡ b → (if b then 0 else words + 2) + x.peak * (words + 2) ≡ max x.peak (x.live + 1) * (words + 2)
    by_test true e =
        let less : x.live < x.peak = grind (arith, nat_tests) in
        let product = ap (λ m. m * (words + 2)) (sym (max_of_less x.peak (x.live + 1) (omega (arith, less)))) in
        omega (arith, product)
    by_test false e =
        let more : x.peak ≤ x.live = grind (arith, nat_tests) in
        let same : x.live ≡ x.peak = omega (arith, more, h) in
        let top = max_of_greater x.peak (x.live + 1) (omega (arith, same)) in
        let product = ap (λ m. m * (words + 2)) (top ∙ ap (λ k. k + 1) same) in
        omega (arith, product)

sum_step : (f : ℕ → ℕ) (n : ℕ) → sum_below f (n + 1) ≡ sum_below f n + f n
sum_step f n = let p : n + 1 ≡ suc n = omega arith in ap (sum_below f) p

module _ (words : ℕ → ℕ) (n c : ℕ) (heap : Heap) (counted : IsCounted words n heap) where
  abbrev old : Collection
  old = heap.collections c

  abbrev new : Collection
  new = made_in (heap.made + 1) old

  taken_with : c < n → heap.taken + grown old (words c) ≡ sum_below (λ d. ((with_element c (words c) heap).collections d).peak * (words d + 2)) n
  taken_with h =
      let all = changed_sum (λ d. (heap.collections d).peak * (words d + 2)) (λ d. ((with_collection c new heap).collections d).peak * (words d + 2)) c n h (λ d e. ap (λ x. x.peak * (words d + 2)) (other_place c d new heap e)) in
      let own = ap (λ x. x.peak * (words c + 2)) (own_place c new heap) in
      let more = one_more old (words c) (counted.peak c) in
      let taken = counted.taken in
      omega (arith, all, own, more, taken)

  live_other : (d : ℕ) → (heap.collections d).live ≡ count_below (heap.collections d).lives (heap.made + 1 + 1)
  live_other d =
      let step = sum_step (λ k. one_if ((heap.collections d).lives k)) (heap.made + 1) in
      let none = ap one_if (counted.made d (heap.made + 1) (omega arith)) in
      let live = counted.live d in
      omega (arith, step, none, live)

  live_own : old.live + 1 ≡ count_below new.lives (heap.made + 1 + 1)
  live_own =
      let step = sum_step (λ k. one_if (new.lives k)) (heap.made + 1) in
      let last = ap (λ b. one_if (if b then true else old.lives (heap.made + 1))) (self (heap.made + 1)) in
      let others = unchanged_sum (λ k. one_if (old.lives k)) (λ k. one_if (new.lives k)) (heap.made + 1) (λ k h. ap (λ b. one_if (if b then true else old.lives k)) (differs k (heap.made + 1) h)) in
      let live = counted.live c in
      omega (arith, step, last, others, live)

  made_own : (creation : ℕ) → heap.made + 1 < creation → new.lives creation ≡ false
  made_own creation k = ap (λ b. if b then true else old.lives creation) (beyond creation (heap.made + 1) k) ∙ counted.made c creation (omega (arith, k))

  made_is_counted : c < n → IsCounted words n (with_element c (words c) heap)
  made_is_counted h = record {
    taken = taken_with h;
    live = each_collection c new heap (λ d x. x.live ≡ count_below x.lives (heap.made + 1 + 1)) live_own live_other;
    peak = each_collection c new heap (λ d x. x.live ≤ x.peak) (le-max_right old.peak (old.live + 1)) counted.peak;
    made = each_collection c new heap (λ d x. (creation : ℕ) → heap.made + 1 < creation → x.lives creation ≡ false) made_own (λ d creation k. counted.made d creation (omega (arith, k)));
  }

module _ (words : ℕ → ℕ) (n c creation : ℕ) (heap : Heap) (lives : is_live heap c creation ≡ true) (counted : IsCounted words n heap) where
  abbrev before : Collection
  before = heap.collections c

  abbrev after : Collection
  after = removed_from creation before

  is_made : creation < heap.made + 1
  is_made = by_test (nat_lt heap.made creation) refl
    where
      by_test : (b : Bool) → nat_lt heap.made creation ≡ b → creation < heap.made + 1
      by_test true e =
          let beyond : heap.made < creation = grind (arith, nat_tests) in
          absurd (true≢false (sym lives ∙ counted.made c creation beyond))
      by_test false e = grind (arith, nat_tests)

  taken_without : heap.taken ≡ sum_below (λ d. ((without_element c creation heap).collections d).peak * (words d + 2)) n
  taken_without = counted.taken ∙ sym (unchanged_sum (λ d. (heap.collections d).peak * (words d + 2)) (λ d. ((without_element c creation heap).collections d).peak * (words d + 2)) n
      (λ d h. ap (λ k. k * (words d + 2)) (each_collection c after heap (λ d x. x.peak ≡ (heap.collections d).peak) refl (λ d. refl) d)))

  live_without : before.live - 1 ≡ count_below after.lives (heap.made + 1)
  live_without =
      let all = changed_sum (λ k. one_if (before.lives k)) (λ k. one_if (after.lives k)) creation (heap.made + 1) is_made (λ k e. ap (λ b. one_if (if b then false else before.lives k)) e) in
      let now = ap (λ b. one_if (if b then false else before.lives creation)) (self creation) in
      let was = ap one_if lives in
      let live = counted.live c in
      omega (arith, all, now, was, live)

  made_without : (k : ℕ) → heap.made < k → after.lives k ≡ false
  made_without k more = by_test (k == creation)
    where
      by_test : (b : Bool) → (if b then false else before.lives k) ≡ false
      by_test true = refl
      by_test false = counted.made c k more

  removed_is_counted : IsCounted words n (without_element c creation heap)
  removed_is_counted = record {
    taken = taken_without;
    live = each_collection c after heap (λ d x. x.live ≡ count_below x.lives (heap.made + 1)) live_without counted.live;
    peak = each_collection c after heap (λ d x. x.live ≤ x.peak) (let most = counted.peak c in omega (arith, most)) counted.peak;
    made = each_collection c after heap (λ d x. (k : ℕ) → heap.made < k → x.lives k ≡ false) made_without counted.made;
  }

pub heap_is_counted : HeapIsCounted
heap_is_counted = record { empty = empty_is_counted; made = λ words n c heap h counted. made_is_counted words n c heap counted h; removed = λ words n c creation heap h counted. removed_is_counted words n c creation heap h counted }
