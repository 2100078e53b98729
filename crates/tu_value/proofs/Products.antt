-- Products of ints, and the two words of each.
use Rattle.std.proofs.Common.{◌≡◌, ℕ, zero, suc, ◌+◌, ◌-◌, ◌*◌, ◌/◌, ◌%◌, ◌<◌, ◌≤◌, ◌⊎◌, inl, inr, true, refl, arith, ap, ap₂, ◌∙◌, sym, ⊎_elim}
use Rattle.std.specs.Prelude.{◌==◌, not, if◌then◌else◌, ℤ, pos, negsuc, ◌*ℤ◌, neg_ℤ, unsigned_abs}
use Rattle.std.proofs.lemmas.Nat.{mul-le}
use Rattle.rv_isa.specs.Arithmetic.{wide}
use Rattle.tu_base.specs.Scalars.{is_int}
use Rattle.tu_value.specs.Words.{word_of_int}
use Rattle.tu_value.proofs.Numbers.{Tested, small_of, not_small}
use Rattle.tu_value.proofs.Tests.{below_test, not_below_test, equal_test, test_equal, is_set, is_unset, below_or_not}

-- p is the number in 64 bits
abbrev pub IsWide : ℤ → ℕ → Type 0
IsWide (pos n) p = p ≡ n
IsWide (negsuc n) p = p + suc n ≡ 18446744073709551616

-- the word that is the sign of a word
abbrev pub sign_of : ℕ → ℕ
sign_of l = wide l / 2147483648 % 4294967296

abbrev pub HasSign : (l s : ℕ) → Type 0
HasSign l s = ((s ≡ 0) × (l < 2147483648)) ⊎ ((s ≡ 4294967295) × (2147483648 ≤ l))

wide_low : (l : ℕ) → l < 2147483648 → wide l ≡ l
wide_low l lt = ap (λ b. if b then l else l + 18446744069414584320) (below_test l 2147483648 lt)

wide_high : (l : ℕ) → 2147483648 ≤ l → wide l ≡ l + 18446744069414584320
wide_high l le = ap (λ b. if b then l else l + 18446744069414584320) (not_below_test l 2147483648 le)

low_sign : (l : ℕ) → l < 2147483648 → l / 2147483648 % 4294967296 ≡ 0
low_sign l lt = omega arith

high_sign : (l : ℕ) → 2147483648 ≤ l → l < 4294967296 → (l + 18446744069414584320) / 2147483648 % 4294967296 ≡ 4294967295
high_sign l le lt = omega arith

has_sign : (l : ℕ) → l < 4294967296 → HasSign l (sign_of l)
has_sign l lt = ⊎_elim
    (λ below. inl (ap (λ w. w / 2147483648 % 4294967296) (wide_low l below) ∙ low_sign l below, below))
    (λ le. inr (ap (λ w. w / 2147483648 % 4294967296) (wide_high l le) ∙ high_sign l le lt, le))
    (below_or_not l 2147483648)

-- a product that is not below 0, in its range and past it
up_fits : (n l s : ℕ) → l ≡ n % 4294967296 → HasSign l s → n ≤ 2147483647 → (n / 4294967296 ≡ s) × (1 ≤ (l + 2147483648) % 4294967296) × ((l + 2147483648) % 4294967296 ≡ 2147483648 + n)
up_fits n l s e h le = (omega arith, omega arith, omega arith)

up_past : (n l s : ℕ) → l ≡ n % 4294967296 → HasSign l s → n ≤ 4611686018427387904 → 2147483647 < n → n / 4294967296 ≡ s → 1 ≤ 0
up_past n l s e h hi lo t = omega arith

-- a product below 0
down_fits : (n p l s : ℕ) → p + suc n ≡ 18446744073709551616 → l ≡ p % 4294967296 → HasSign l s → suc n ≤ 2147483647 → (p / 4294967296 ≡ s) × (1 ≤ (l + 2147483648) % 4294967296) × ((l + 2147483648) % 4294967296 ≡ 2147483647 - n)
down_fits n p l s e f h le = (omega arith, omega arith, omega arith)

down_past : (n p l s : ℕ) → p + suc n ≡ 18446744073709551616 → l ≡ p % 4294967296 → HasSign l s → suc n ≤ 4611686018427387904 → 2147483647 < suc n → p / 4294967296 ≡ s → (l + 2147483648) % 4294967296 ≡ 0
down_past n p l s e f h hi lo t = omega arith

word_below : (p l : ℕ) → l ≡ p % 4294967296 → l < 4294967296
word_below p l e = omega arith

never : {P : Type 0} → 1 ≤ 0 → P
never h = absurd (omega arith)

-- The product of two ints is tested by its upper word and its lower one.
pub product_tested : (z : ℤ) (p l : ℕ) → IsWide z p → l ≡ p % 4294967296 → unsigned_abs z ≤ 4611686018427387904 →
    let s = (l + 2147483648) % 4294967296 in Tested z s (p / 4294967296 == sign_of l) (not (s == 0))
product_tested (pos n) p l e f b =
    let h = has_sign l (word_below p l f) in
    let k : l ≡ n % 4294967296 = f ∙ ap (λ q. q % 4294967296) e in
    record {
      fits = λ i. let q = up_fits n l (sign_of l) k h (small_of n i) in (equal_test (p / 4294967296) (sign_of l) (ap (λ q. q / 4294967296) e ∙ q.0), is_set ((l + 2147483648) % 4294967296) q.1, q.2);
      fails = λ i t. never (up_past n l (sign_of l) k h b (not_small n i) (sym (ap (λ q. q / 4294967296) e) ∙ test_equal (p / 4294967296) (sign_of l) t));
    }
product_tested (negsuc n) p l e f b =
    let h = has_sign l (word_below p l f) in
    record {
      fits = λ i. let q = down_fits n p l (sign_of l) e f h (small_of (suc n) i) in (equal_test (p / 4294967296) (sign_of l) q.0, is_set ((l + 2147483648) % 4294967296) q.1, q.2);
      fails = λ i t. is_unset ((l + 2147483648) % 4294967296) (down_past n p l (sign_of l) e f h b (not_small (suc n) i) (test_equal (p / 4294967296) (sign_of l) t));
    }

-- a word of 32 bits and one of 64 of the same number
abbrev pub Signed : ℤ → (a wa : ℕ) → Type 0
Signed (pos m) a wa = (a ≡ m) × (wa ≡ m)
Signed (negsuc m) a wa = (a + suc m ≡ 4294967296) × (wa + suc m ≡ 18446744073709551616)

-- the signed number of an int
abbrev pub signed_word : ℤ → ℕ
signed_word x = (word_of_int x + 2147483648) % 4294967296

up_signed : (m : ℕ) → m ≤ 2147483647 → (2147483648 + m + 2147483648) % 4294967296 ≡ m
up_signed m le = omega arith

down_signed : (m : ℕ) → suc m ≤ 2147483647 → (2147483647 - m + 2147483648) % 4294967296 + suc m ≡ 4294967296
down_signed m le = omega arith

up_wide : (a m : ℕ) → a ≡ m → m ≤ 2147483647 → wide a ≡ m
up_wide a m e le = wide_low a (omega arith) ∙ e

down_wide : (a m : ℕ) → a + suc m ≡ 4294967296 → suc m ≤ 2147483647 → wide a + suc m ≡ 18446744073709551616
down_wide a m e le = let w : wide a ≡ a + 18446744069414584320 = wide_high a (omega arith) in ap (λ q. q + suc m) w ∙ (let q : a + 18446744069414584320 + suc m ≡ 18446744073709551616 = omega arith in q)

pub is_signed : (x : ℤ) → is_int x ≡ true → Signed x (signed_word x) (wide (signed_word x))
is_signed (pos m) e = let le : m ≤ 2147483647 = small_of m e in let s = up_signed m le in (s, up_wide (signed_word (pos m)) m s le)
is_signed (negsuc m) e = let le : suc m ≤ 2147483647 = small_of (suc m) e in let s = down_signed m le in (s, down_wide (signed_word (negsuc m)) m s le)

-- the products of the two words of two numbers
pub record IsProduct (z : ℤ) (a b wa wb : ℕ) : Type 0 where
  pub wide_is : IsWide z (wa * wb % 18446744073709551616)
  pub low_is : a * b % 4294967296 ≡ wa * wb % 18446744073709551616 % 4294967296
  pub bounded : unsigned_abs z ≤ 4611686018427387904

-- a product of numbers, from x and y, which are those of their words
up_up : (x y p : ℕ) → x ≡ p → y ≡ p → p ≤ 4611686014132420609 → (y % 18446744073709551616 ≡ p) × (x % 4294967296 ≡ y % 18446744073709551616 % 4294967296)
up_up x y p e f le = (omega arith, omega arith)

down_down : (x y p a wa t : ℕ) → x + 4294967296 * t ≡ 4294967296 * a + p → y + 18446744073709551616 * t ≡ 18446744073709551616 * wa + p → p ≤ 4611686014132420609 → (y % 18446744073709551616 ≡ p) × (x % 4294967296 ≡ y % 18446744073709551616 % 4294967296)
down_down x y p a wa t e f le = (omega arith, omega arith)

up_down : (x y p m : ℕ) → x + p ≡ 4294967296 * m → y + p ≡ 18446744073709551616 * m → p ≤ 4611686014132420609 → (p ≡ 0 → y % 18446744073709551616 ≡ 0) × (1 ≤ p → y % 18446744073709551616 + p ≡ 18446744073709551616) × (x % 4294967296 ≡ y % 18446744073709551616 % 4294967296)
up_down x y p m e f le = (λ z. omega arith, λ o. omega arith, omega arith)

-- a product with one side, or with both, below 0
beside : (m b s n : ℕ) → b + s ≡ n → m * b + m * s ≡ n * m
beside m b s n e = let q : m * (b + s) ≡ m * n = ap (λ t. m * t) e in omega arith

across : (a b s t n : ℕ) → a + s ≡ n → b + t ≡ n → a * b + n * t ≡ n * a + s * t
across a b s t n e f = let q : a * (b + t) ≡ a * n = ap (λ u. a * u) f in let r : (a + s) * t ≡ n * t = ap (λ u. u * t) e in omega arith

less_wide : (q p : ℕ) → (q ≡ 0 → p ≡ 0) → (1 ≤ q → p + q ≡ 18446744073709551616) → IsWide (neg_ℤ (pos q)) p
less_wide zero p f h = f refl
less_wide (suc q) p f h = h (omega arith)

less_abs : (q : ℕ) → unsigned_abs (neg_ℤ (pos q)) ≡ q
less_abs zero = refl
less_abs (suc q) = refl

at_most : (m n : ℕ) → m ≤ 2147483647 → n ≤ 2147483647 → m * n ≤ 4611686014132420609
at_most m n e f = mul-le m n 2147483647 2147483647 e f

larger : (p : ℕ) → p ≤ 4611686014132420609 → p ≤ 4611686018427387904
larger p le = omega arith

up_product : (x y p : ℕ) (a b wa wb : ℕ) → a * b ≡ x → wa * wb ≡ y → (y % 18446744073709551616 ≡ p) × (x % 4294967296 ≡ y % 18446744073709551616 % 4294967296) → p ≤ 4611686014132420609 → IsProduct (pos p) a b wa wb
up_product x y p a b wa wb e f q le = record {
  wide_is = ap (λ t. t % 18446744073709551616) f ∙ q.0;
  low_is = ap (λ t. t % 4294967296) e ∙ q.1 ∙ sym (ap (λ t. t % 18446744073709551616 % 4294967296) f);
  bounded = larger p le;
}

down_product : (p m a b wa wb : ℕ) → a * b + p ≡ 4294967296 * m → wa * wb + p ≡ 18446744073709551616 * m → p ≤ 4611686014132420609 → IsProduct (neg_ℤ (pos p)) a b wa wb
down_product p m a b wa wb e f le = let q = up_down (a * b) (wa * wb) p m e f le in record {
  wide_is = less_wide p (wa * wb % 18446744073709551616) q.0 q.1;
  low_is = q.2;
  bounded = let n : unsigned_abs (neg_ℤ (pos p)) ≡ p = less_abs p in let k = larger p le in omega (arith, n, k);
}

pub product_is : (x y : ℤ) (a b wa wb : ℕ) → is_int x ≡ true → is_int y ≡ true → Signed x a wa → Signed y b wb → IsProduct (x *ℤ y) a b wa wb
product_is (pos m) (pos n) a b wa wb e f s t =
    let le = at_most m n (small_of m e) (small_of n f) in
    up_product (m * n) (m * n) (m * n) a b wa wb (ap₂ (λ q r. q * r) s.0 t.0) (ap₂ (λ q r. q * r) s.1 t.1) (up_up (m * n) (m * n) (m * n) refl refl le) le
product_is (pos m) (negsuc n) a b wa wb e f s t =
    let le = at_most m (suc n) (small_of m e) (small_of (suc n) f) in
    down_product (m * suc n) m a b wa wb
    (ap (λ q. q * b + m * suc n) s.0 ∙ beside m b (suc n) 4294967296 t.0) (ap (λ q. q * wb + m * suc n) s.1 ∙ beside m wb (suc n) 18446744073709551616 t.1) le
product_is (negsuc m) (pos n) a b wa wb e f s t =
    let le = at_most (suc m) n (small_of (suc m) e) (small_of n f) in
    down_product (suc m * n) n a b wa wb
    (ap (λ q. a * q + suc m * n) t.0 ∙ turned a n (suc m) 4294967296 s.0) (ap (λ q. wa * q + suc m * n) t.1 ∙ turned wa n (suc m) 18446744073709551616 s.1) le
  where
    turned : (a n s k : ℕ) → a + s ≡ k → a * n + s * n ≡ k * n
    turned a n s k e = let q : (a + s) * n ≡ k * n = ap (λ t. t * n) e in omega arith
product_is (negsuc m) (negsuc n) a b wa wb e f s t =
    let le = at_most (suc m) (suc n) (small_of (suc m) e) (small_of (suc n) f) in
    up_product (a * b) (wa * wb) (suc m * suc n) a b wa wb refl refl
    (down_down (a * b) (wa * wb) (suc m * suc n) a wa (suc n) (across a b (suc m) (suc n) 4294967296 s.0 t.0) (across wa wb (suc m) (suc n) 18446744073709551616 s.1 t.1) le) le
