-- What `cmp` answers, and the tests of the definitions.
use Rattle.std.specs.Prelude.{◌≡◌, ℕ, ℤ, List, int_lt}
use Rattle.std.specs.Ordering.{nat_cmp, int_cmp, is_lt, is_eq, is_gt}
use Rattle.std.specs.Cmp.Lexicographic.{slice_cmp}
use Rattle.std.proofs.Common.{Ordering, refl, ap, ◌∙◌, arith}
use Rattle.std.proofs.lemmas.Int.{ints}
use Rattle.std.proofs.lemmas.Bool.Decides.{nat_tests}
use Rattle.std.proofs.lemmas.Cmp.{same_from_slice_cmp}
use Rattle.tu_base.specs.declared.operator.Relation.{Relation}
use Rattle.tu_base.specs.Scalars.{are_equal, by_order, compared}
use Rattle.tu_base.specs.Texts.{is_before, are_equal_texts, text_compared}

int_before : (a b : ℤ) → is_lt (int_cmp a b) ≡ int_lt a b
int_before a b = grind (arith, ints)

int_equal : (a b : ℤ) → is_eq (int_cmp a b) ≡ are_equal a b
int_equal a b = grind (arith, ints)

int_behind : (a b : ℤ) → is_gt (int_cmp a b) ≡ int_lt b a
int_behind a b = grind (arith, ints)

pub ints_compared : (relation : Relation) (a b : ℤ) (o : Ordering) → o ≡ int_cmp a b → by_order relation (is_lt o) (is_eq o) (is_gt o) ≡ compared relation a b
ints_compared relation a b o e =
    ap (λ p. by_order relation (is_lt p) (is_eq p) (is_gt p)) e
    ∙ (ap (λ t. by_order relation t (is_eq (int_cmp a b)) (is_gt (int_cmp a b))) (int_before a b)
    ∙ (ap (λ t. by_order relation (int_lt a b) t (is_gt (int_cmp a b))) (int_equal a b)
    ∙ ap (λ t. by_order relation (int_lt a b) (are_equal a b) t) (int_behind a b)))

text_before : (a b : List ℕ) (o : Ordering) → o ≡ slice_cmp nat_cmp a b → is_lt o ≡ is_before a b
text_before = same_from_slice_cmp nat_cmp is_lt is_before refl (λ _ _. refl) (λ _ _. refl) (λ x y xs ys o h. grind (arith, nat_tests))

text_equal : (a b : List ℕ) (o : Ordering) → o ≡ slice_cmp nat_cmp a b → is_eq o ≡ are_equal_texts a b
text_equal = same_from_slice_cmp nat_cmp is_eq are_equal_texts refl (λ _ _. refl) (λ _ _. refl) (λ x y xs ys o h. grind (arith, nat_tests))

text_behind : (a b : List ℕ) (o : Ordering) → o ≡ slice_cmp nat_cmp a b → is_gt o ≡ is_before b a
text_behind = same_from_slice_cmp nat_cmp is_gt (λ a b. is_before b a) refl (λ _ _. refl) (λ _ _. refl) (λ x y xs ys o h. grind (arith, nat_tests))

pub texts_compared : (relation : Relation) (a b : List ℕ) (o : Ordering) → o ≡ slice_cmp nat_cmp a b → by_order relation (is_lt o) (is_eq o) (is_gt o) ≡ text_compared relation a b
texts_compared relation a b o e =
    ap (λ t. by_order relation t (is_eq o) (is_gt o)) (text_before a b o e)
    ∙ (ap (λ t. by_order relation (is_before a b) t (is_gt o)) (text_equal a b o e)
    ∙ ap (λ t. by_order relation (is_before a b) (are_equal_texts a b) t) (text_behind a b o e))
