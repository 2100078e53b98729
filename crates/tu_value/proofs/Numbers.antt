-- Ints and their words.
use Rattle.std.proofs.Common.{◌≡◌, ℕ, zero, suc, ◌+◌, ◌-◌, ◌%◌, ◌<◌, ◌≤◌, Bool, true, false, refl, arith, nat_lt, ap, subst}
use Rattle.std.specs.Prelude.{◌==◌, not, nat_le, cond, ltb, ℤ, pos, negsuc, ◌+ℤ◌, ◌-ℤ◌, neg_ℤ}
use Rattle.std.proofs.lemmas.Bool.Decides.{nat_tests}
use Rattle.rv_isa.specs.Arithmetic.{one_if}
use Rattle.tu_base.specs.Scalars.{is_int}
use Rattle.tu_value.specs.Words.{word_of_int}
use Rattle.tu_value.proofs.Tests.{at_most_test, below_test, not_below_test, same_below}

-- k is so many more than the number
abbrev pub IsAbove : (base : ℕ) → ℤ → ℕ → Type 0
IsAbove base (pos n) k = k ≡ base + n
IsAbove base (negsuc n) k = k + suc n ≡ base

above_cond : (base : ℕ) (b : Bool) (x y : ℤ) (k : ℕ) → (b ≡ true → IsAbove base x k) → (b ≡ false → IsAbove base y k) → IsAbove base (cond b x y) k
above_cond base true x y k f h = f refl
above_cond base false x y k f h = h refl

-- the difference of two numbers
above_less : (base m n k : ℕ) → k + n ≡ base + m → IsAbove base (cond (ltb m n) (negsuc (n - suc m)) (pos (m - n))) k
above_less base m n k e = above_cond base (ltb m n) (negsuc (n - suc m)) (pos (m - n)) k
    (λ lt. let is : nat_lt m n ≡ true = lt in let le : m < n = grind (arith, nat_tests, is) in omega (arith, e, le))
    (λ ge. let is : nat_lt m n ≡ false = ge in let le : n ≤ m = grind (arith, nat_tests, is) in omega (arith, e, le))

pub small_of : (n : ℕ) → nat_le n 2147483647 ≡ true → n ≤ 2147483647
small_of n e = grind (arith, nat_tests, e)

pub not_small : (n : ℕ) → nat_le n 2147483647 ≡ false → 2147483647 < n
not_small n e = grind (arith, nat_tests, e)

pub small_word : (z : ℤ) → is_int z ≡ true → (1 ≤ word_of_int z) × (word_of_int z < 4294967296)
small_word (pos n) e = let le : n ≤ 2147483647 = small_of n e in (omega arith, omega arith)
small_word (negsuc n) e = let le : suc n ≤ 2147483647 = small_of (suc n) e in (omega arith, omega arith)

pub above_sum : (x y : ℤ) → is_int x ≡ true → is_int y ≡ true → IsAbove 4294967296 (x +ℤ y) (word_of_int x + word_of_int y)
above_sum (pos m) (pos n) e f = omega arith
above_sum (pos m) (negsuc n) e f = let ln : suc n ≤ 2147483647 = small_of (suc n) f in above_less 4294967296 m (suc n) (2147483648 + m + (2147483647 - n)) (omega arith)
above_sum (negsuc m) (pos n) e f = let lm : suc m ≤ 2147483647 = small_of (suc m) e in above_less 4294967296 n (suc m) (2147483647 - m + (2147483648 + n)) (omega arith)
above_sum (negsuc m) (negsuc n) e f =
    let lm : suc m ≤ 2147483647 = small_of (suc m) e in let ln : suc n ≤ 2147483647 = small_of (suc n) f in
    let q : (2147483647 - m + (2147483647 - n)) + suc (suc (m + n)) ≡ 4294967296 = omega arith in q

-- the word of what lies so far above 2^32
abbrev pub coded_sum : ℕ → ℕ → ℕ
coded_sum v w = ((v + w) % 4294967296 + 2147483648) % 4294967296

in_range : (z : ℤ) (k : ℕ) → IsAbove 4294967296 z k → is_int z ≡ true → (2147483649 ≤ k) × (k ≤ 6442450943) × (word_of_int z + 2147483648 ≡ k)
in_range (pos n) k e f = let le : n ≤ 2147483647 = small_of n f in (omega arith, omega arith, omega arith)
in_range (negsuc n) k e f = let le : suc n ≤ 2147483647 = small_of (suc n) f in (omega arith, omega arith, omega arith)

out_of_range : (z : ℤ) (k : ℕ) → IsAbove 4294967296 z k → is_int z ≡ false → (2147483649 ≤ k → 6442450943 < k)
out_of_range (pos n) k e f = λ le. let is : nat_le n 2147483647 ≡ false = f in let lt : 2147483647 < n = grind (arith, nat_tests, is) in omega arith
out_of_range (negsuc n) k e f = λ le. let is : nat_le (suc n) 2147483647 ≡ false = f in let lt : 2147483647 < suc n = grind (arith, nat_tests, is) in absurd (omega arith)

-- The sum of two words is tested: where it is in range both tests hold, and else one of them fails.
pub record Tested (z : ℤ) (s : ℕ) (first second : Bool) : Type 0 where
  pub fits : is_int z ≡ true → (first ≡ true) × (second ≡ true) × (s ≡ word_of_int z)
  pub fails : is_int z ≡ false → first ≡ true → second ≡ false

tests_same : (a b : Bool) → a ≡ b → (one_if a == one_if b) ≡ true
tests_same true true e = refl
tests_same false false e = refl
tests_same true false e = absurd (let q : true ≡ false = e in grind (arith, q))
tests_same false true e = absurd (let q : false ≡ true = e in grind (arith, q))

same_tests : (a b : Bool) → (one_if a == one_if b) ≡ true → a ≡ b
same_tests true true e = refl
same_tests false false e = refl
same_tests true false e = absurd (let q : false ≡ true = e in grind (arith, q))
same_tests false true e = absurd (let q : false ≡ true = e in grind (arith, q))

sum_range : (v w : ℕ) → 1 ≤ v → v < 4294967296 → 1 ≤ w → w < 4294967296 → 2147483649 ≤ v + w → v + w ≤ 6442450943 → (nat_lt (coded_sum v w) v ≡ nat_lt w 2147483648) × (not (coded_sum v w == 0) ≡ true) × (coded_sum v w + 2147483648 ≡ v + w)
sum_range v w lv hv lw hw lo hi =
    let e : coded_sum v w + 2147483648 ≡ v + w = omega arith in
    let s = coded_sum v w in
    (by s v w e, grind (arith, nat_tests, e), e)
  where
    by : (s v w : ℕ) → s + 2147483648 ≡ v + w → nat_lt s v ≡ nat_lt w 2147483648
    by s v w e = grind (arith, nat_tests, e)

pub sum_tested : (x y : ℤ) → is_int x ≡ true → is_int y ≡ true →
    let v = word_of_int x in let w = word_of_int y in let s = coded_sum v w in
    Tested (x +ℤ y) s (one_if (nat_lt s v) == one_if (nat_lt w 2147483648)) (not (s == 0))
sum_tested x y e f =
    let v = word_of_int x in let w = word_of_int y in let s = coded_sum v w in
    let sv = small_word x e in let sw = small_word y f in
    let k = above_sum x y e f in
    record {
      fits = λ i. let r = in_range (x +ℤ y) (v + w) k i in let q = sum_range v w sv.0 sv.1 sw.0 sw.1 r.0 r.1 in (tests_same (nat_lt s v) (nat_lt w 2147483648) q.0, q.1, omega (arith, q.2, r.2));
      fails = λ i t. let o = out_of_range (x +ℤ y) (v + w) k i in let q = same_tests (nat_lt s v) (nat_lt w 2147483648) t in past v w sv.0 sv.1 sw.0 sw.1 o q;
    }
  where
    past : (v w : ℕ) → 1 ≤ v → v < 4294967296 → 1 ≤ w → w < 4294967296 → (2147483649 ≤ v + w → 6442450943 < v + w) → nat_lt (coded_sum v w) v ≡ nat_lt w 2147483648 → not (coded_sum v w == 0) ≡ false
    past v w lv hv lw hw o q = grind (arith, nat_tests, o, q)

-- the negative of an int, and its word
negated : (y : ℤ) → is_int y ≡ true → (is_int (neg_ℤ y) ≡ true) × (word_of_int (neg_ℤ y) + word_of_int y ≡ 4294967296)
negated (pos zero) e = (refl, refl)
negated (pos (suc n)) e = let le : suc n ≤ 2147483647 = small_of (suc n) e in (e, negated_up n le)
  where
    negated_up : (n : ℕ) → suc n ≤ 2147483647 → (2147483647 - n) + (2147483648 + suc n) ≡ 4294967296
    negated_up n le = omega arith
negated (negsuc n) e = let le : suc n ≤ 2147483647 = small_of (suc n) e in (e, negated_down n le)
  where
    negated_down : (n : ℕ) → suc n ≤ 2147483647 → (2147483648 + suc n) + (2147483647 - n) ≡ 4294967296
    negated_down n le = omega arith

difference_range : (v w u : ℕ) → u + w ≡ 4294967296 → 1 ≤ v → v < 4294967296 → 1 ≤ w → w < 4294967296 → 2147483649 ≤ v + u → v + u ≤ 6442450943 → (nat_lt v (coded_sum v u) ≡ nat_lt w 2147483648) × (not (coded_sum v u == 0) ≡ true) × (coded_sum v u + 2147483648 ≡ v + u)
difference_range v w u d lv hv lw hw lo hi =
    let e : coded_sum v u + 2147483648 ≡ v + u = omega arith in
    let s = coded_sum v u in
    (by s e, grind (arith, nat_tests, e), e)
  where
    by : (s : ℕ) → s + 2147483648 ≡ v + u → nat_lt v s ≡ nat_lt w 2147483648
    by s e = same_below v s w 2147483648 (λ lt. omega arith) (λ lt. omega arith)

difference_past : (v w u : ℕ) → u + w ≡ 4294967296 → 1 ≤ v → v < 4294967296 → 1 ≤ w → w < 4294967296 → (2147483649 ≤ v + u → 6442450943 < v + u) → nat_lt v (coded_sum v u) ≡ nat_lt w 2147483648 → not (coded_sum v u == 0) ≡ false
difference_past v w u d lv hv lw hw o q = grind (arith, nat_tests, o, q)

pub difference_tested : (x y : ℤ) → is_int x ≡ true → is_int y ≡ true →
    let v = word_of_int x in let w = word_of_int y in let s = coded_sum v (4294967296 - w) in
    Tested (x -ℤ y) s (one_if (nat_lt v s) == one_if (nat_lt w 2147483648)) (not (s == 0))
difference_tested x y e f =
    let v = word_of_int x in let w = word_of_int y in let u = word_of_int (neg_ℤ y) in
    let n = negated y f in
    let is : u ≡ 4294967296 - w = omega (arith, n.1) in
    subst (λ u. Tested (x -ℤ y) (coded_sum v u) (one_if (nat_lt v (coded_sum v u)) == one_if (nat_lt w 2147483648)) (not (coded_sum v u == 0))) is (tested n.0 n.1)
  where
    tested : is_int (neg_ℤ y) ≡ true → word_of_int (neg_ℤ y) + word_of_int y ≡ 4294967296 → let v = word_of_int x in let u = word_of_int (neg_ℤ y) in Tested (x -ℤ y) (coded_sum v u) (one_if (nat_lt v (coded_sum v u)) == one_if (nat_lt (word_of_int y) 2147483648)) (not (coded_sum v u == 0))
    tested small d =
        let v = word_of_int x in let w = word_of_int y in let u = word_of_int (neg_ℤ y) in let s = coded_sum v u in
        let sv = small_word x e in let sw = small_word y f in
        let k = above_sum x (neg_ℤ y) e small in
        record {
          fits = λ i. let r = in_range (x -ℤ y) (v + u) k i in let q = difference_range v w u d sv.0 sv.1 sw.0 sw.1 r.0 r.1 in (tests_same (nat_lt v s) (nat_lt w 2147483648) q.0, q.1, omega (arith, q.2, r.2));
          fails = λ i t. let o = out_of_range (x -ℤ y) (v + u) k i in let q = same_tests (nat_lt v s) (nat_lt w 2147483648) t in difference_past v w u d sv.0 sv.1 sw.0 sw.1 o q;
        }

-- The sum of a word and a number is tested once.
pub record TestedOnce (z : ℤ) (s : ℕ) (test : Bool) : Type 0 where
  pub fits : is_int z ≡ true → (test ≡ true) × (s ≡ word_of_int z)
  pub fails : is_int z ≡ false → test ≡ false

pub more_tested : (x : ℤ) (number : ℕ) → is_int x ≡ true → number ≤ 2147483647 →
    let v = word_of_int x in let s = (v + number) % 4294967296 in TestedOnce (x +ℤ pos number) s (not (nat_lt s v))
more_tested x number e le =
    let v = word_of_int x in let s = (v + number) % 4294967296 in
    let sv = small_word x e in
    let k = above_sum x (pos number) e (at_most_test number 2147483647 le) in
    record {
      fits = λ i. let r = in_range (x +ℤ pos number) (v + (2147483648 + number)) k i in (within v number sv.1 r.1, omega (arith, r.1, r.2));
      fails = λ i. let o = out_of_range (x +ℤ pos number) (v + (2147483648 + number)) k i in past v number sv.0 sv.1 le o;
    }
  where
    within : (v number : ℕ) → v < 4294967296 → v + (2147483648 + number) ≤ 6442450943 → not (nat_lt ((v + number) % 4294967296) v) ≡ true
    within v number lt hi = let q : v ≤ (v + number) % 4294967296 = omega arith in ap not (not_below_test ((v + number) % 4294967296) v q)

    past : (v number : ℕ) → 1 ≤ v → v < 4294967296 → number ≤ 2147483647 → (2147483649 ≤ v + (2147483648 + number) → 6442450943 < v + (2147483648 + number)) → not (nat_lt ((v + number) % 4294967296) v) ≡ false
    past v number lo lt le o = let h : 6442450943 < v + (2147483648 + number) = o (omega arith) in let q : (v + number) % 4294967296 < v = omega arith in ap not (below_test ((v + number) % 4294967296) v q)

pub less_tested : (x : ℤ) (number : ℕ) → is_int x ≡ true → number ≤ 2147483647 →
    let v = word_of_int x in TestedOnce (x -ℤ pos number) ((v + (4294967296 - number)) % 4294967296) (nat_lt number v)
less_tested x number e le =
    let v = word_of_int x in let u = word_of_int (neg_ℤ (pos number)) in
    let sv = small_word x e in
    let n = negated (pos number) (at_most_test number 2147483647 le) in
    let k = above_sum x (neg_ℤ (pos number)) e n.0 in
    record {
      fits = λ i. let r = in_range (x -ℤ pos number) (v + u) k i in (below_test number v (omega (arith, n.1, r.0)), within v u number (word_of_int (x -ℤ pos number)) n.1 sv.1 r.0 r.2);
      fails = λ i. let o = out_of_range (x -ℤ pos number) (v + u) k i in not_below_test number v (past v u number n.1 sv.1 o);
    }
  where
    within : (v u number w : ℕ) → u + (2147483648 + number) ≡ 4294967296 → v < 4294967296 → 2147483649 ≤ v + u → w + 2147483648 ≡ v + u → (v + (4294967296 - number)) % 4294967296 ≡ w
    within v u number w d lt lo e = omega arith

    past : (v u number : ℕ) → u + (2147483648 + number) ≡ 4294967296 → v < 4294967296 → (2147483649 ≤ v + u → 6442450943 < v + u) → v ≤ number
    past v u number d lt o = grind (arith, o)
