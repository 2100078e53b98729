-- The order of ints is that of their words.
use Rattle.std.proofs.Common.{◌≡◌, ℕ, suc, ◌+◌, ◌-◌, ◌≤◌, true, ◌&&◌, ◌||◌, refl, arith, ap, ap₂, ◌∙◌, sym}
use Rattle.std.specs.Prelude.{◌==◌, not, nat_lt, nat_le, ℤ, pos, negsuc, int_lt, int_le}
use Rattle.std.proofs.lemmas.Bool.Decides.{nat_tests}
use Rattle.tu_base.specs.declared.operator.Relation.TheVariants.{Equal, NotEqual, Less, Greater, LessOrEqual, GreaterOrEqual}
use Rattle.tu_base.specs.Scalars.{is_int, are_equal}
use Rattle.tu_value.specs.Words.{word_of_int}
use Rattle.tu_value.specs.Laws.{RelationsHold}
use Rattle.tu_value.proofs.Numbers.{small_of}
use Rattle.tu_value.proofs.Tests.{below_test, not_below_test, same_below}

less_up : (m n : ℕ) → nat_lt m n ≡ nat_lt (2147483648 + m) (2147483648 + n)
less_up m n = same_below m n (2147483648 + m) (2147483648 + n) (λ lt. omega arith) (λ lt. omega arith)

less_down : (m n : ℕ) → suc m ≤ 2147483647 → suc n ≤ 2147483647 → nat_lt n m ≡ nat_lt (2147483647 - m) (2147483647 - n)
less_down m n e f = same_below n m (2147483647 - m) (2147483647 - n) (λ lt. omega arith) (λ lt. omega arith)

less_is : (x y : ℤ) → is_int x ≡ true → is_int y ≡ true → int_lt x y ≡ nat_lt (word_of_int x) (word_of_int y)
less_is (pos m) (pos n) e f = less_up m n
less_is (pos m) (negsuc n) e f = sym (not_below_test (2147483648 + m) (2147483647 - n) (omega arith))
less_is (negsuc m) (pos n) e f = sym (below_test (2147483647 - m) (2147483648 + n) (omega arith))
less_is (negsuc m) (negsuc n) e f = less_down m n (small_of (suc m) e) (small_of (suc n) f)

at_most_is : (m n : ℕ) → nat_le m n ≡ not (nat_lt n m)
at_most_is m n = grind (arith, nat_tests)

not_less : (x y : ℤ) → int_le x y ≡ not (int_lt y x)
not_less (pos m) (pos n) = at_most_is m n
not_less (pos m) (negsuc n) = refl
not_less (negsuc m) (pos n) = refl
not_less (negsuc m) (negsuc n) = at_most_is n m

le_is : (x y : ℤ) → is_int x ≡ true → is_int y ≡ true → int_le x y ≡ not (nat_lt (word_of_int y) (word_of_int x))
le_is x y e f = not_less x y ∙ ap not (less_is y x f e)

both_ways : (v w : ℕ) → (not (nat_lt w v) && not (nat_lt v w)) ≡ (v == w)
both_ways v w = grind (arith, nat_tests)

equal_is : (x y : ℤ) → is_int x ≡ true → is_int y ≡ true → are_equal x y ≡ (word_of_int x == word_of_int y)
equal_is x y e f = ap₂ (λ s t. s && t) (le_is x y e f) (le_is y x f e) ∙ both_ways (word_of_int x) (word_of_int y)

at_most : (v w : ℕ) → (nat_lt v w || (v == w)) ≡ not (nat_lt w v)
at_most v w = grind (arith, nat_tests)

equal_back : (v w : ℕ) → (nat_lt w v || (v == w)) ≡ not (nat_lt v w)
equal_back v w = grind (arith, nat_tests)

pub relations_hold : RelationsHold
relations_hold Equal x y e f = equal_is x y e f
relations_hold NotEqual x y e f = ap not (equal_is x y e f)
relations_hold Less x y e f = less_is x y e f
relations_hold Greater x y e f = less_is y x f e
relations_hold LessOrEqual x y e f = ap₂ (λ s t. s || t) (less_is x y e f) (equal_is x y e f) ∙ at_most (word_of_int x) (word_of_int y)
relations_hold GreaterOrEqual x y e f = ap₂ (λ s t. s || t) (less_is y x f e) (equal_is x y e f) ∙ equal_back (word_of_int x) (word_of_int y)
