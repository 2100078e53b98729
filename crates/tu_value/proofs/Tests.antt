-- Tests of numbers, and what they tell.
use Rattle.std.proofs.Common.{◌≡◌, ℕ, ◌<◌, ◌≤◌, ◌⊎◌, true, false, arith}
use Rattle.std.specs.Prelude.{◌==◌, not, nat_lt, nat_le}
use Rattle.std.proofs.lemmas.Bool.Decides.{nat_tests}

pub below_test : (m n : ℕ) → m < n → nat_lt m n ≡ true
below_test m n lt = grind (arith, nat_tests)

pub not_below_test : (m n : ℕ) → n ≤ m → nat_lt m n ≡ false
not_below_test m n le = grind (arith, nat_tests)

pub at_most_test : (m n : ℕ) → m ≤ n → nat_le m n ≡ true
at_most_test m n le = grind (arith, nat_tests)

pub equal_test : (m n : ℕ) → m ≡ n → (m == n) ≡ true
equal_test m n e = grind (arith, nat_tests)

pub test_equal : (m n : ℕ) → (m == n) ≡ true → m ≡ n
test_equal m n e = grind (arith, nat_tests)

-- not zero
pub is_set : (w : ℕ) → 1 ≤ w → not (w == 0) ≡ true
is_set w le = grind (arith, nat_tests)

pub is_unset : (w : ℕ) → w ≡ 0 → not (w == 0) ≡ false
is_unset w e = grind (arith, nat_tests)

pub below_or_not : (m n : ℕ) → (m < n) ⊎ (n ≤ m)
below_or_not m n = grind arith

-- two tests that say the same
pub same_below : (a b c d : ℕ) → (a < b → c < d) → (c < d → a < b) → nat_lt a b ≡ nat_lt c d
same_below a b c d f h = grind (arith, nat_tests)
