-- What passes a test of being the same is the same.
use Rattle.std.proofs.Common.{◌≡◌, ◌≢◌, ℕ, ◌==◌, Bool, true, false, not, List, [], ◌∷◌, Option, Some, None, refl, sym, ◌∙◌, ap, subst, arith}
use Rattle.std.specs.Prelude.{ℤ, is_some, is_none}
use Rattle.std.specs.List.{Contains, list_all}
use Rattle.std.proofs.lemmas.Bool.Decides.{nat_tests}
use Rattle.std.proofs.lemmas.Bool.{not-true}
use Rattle.std.proofs.lemmas.Int.{ints}
use Rattle.std.proofs.lemmas.List.Elements.{All-contains}
use Rattle.std.proofs.lemmas.List.Sums.{AllPass-from_list_all}
use Rattle.tu_base.specs.declared.shape.Span.{Span}
use Rattle.tu_base.specs.Scalars.{are_equal}
use Rattle.tu_core.specs.declared.names.Variable.{Variable}
use Rattle.tu_core.specs.declared.names.Variable.TheVariants.{Global, Local}
use Rattle.tu_core.specs.declared.targets.Index.{Index}
use Rattle.tu_core.specs.declared.targets.Index.TheVariants.{Known, Open}
use Rattle.tu_core.specs.Targets.{is_same_span, is_same_index, are_same_indexes}
use Rattle.tu_core.specs.Places.{has_some}
use Rattle.tu_core.specs.Rooms.{is_same}
use Rattle.tu_core.specs.Acts.{Subject, AVariable, ACollection}
use Rattle.tu_core.specs.Effects.{is_one}
use Rattle.tu_core.specs.TypeTest.{unless}
use Rattle.tu_core.proofs.Tests.{no_so, left, right}

pub passes : {X : Type 0} (test : X → Bool) (xs : List X) → list_all test xs ≡ true → (x : X) → Contains xs x → test x ≡ true
passes test xs all x is = All-contains (λ y. test y ≡ true) xs x (AllPass-from_list_all test xs all) is

pub unless_so : (test other : Bool) → unless test other ≡ true → test ≡ true → other ≡ true
unless_so true other w e = w
unless_so false other w e = no_so e

pub is_nothing : {A : Type 0} (x : Option A) → is_none x ≡ true → x ≡ None
is_nothing None w = refl
is_nothing (Some a) w = no_so w

pub equal_ints : (a b : ℤ) → are_equal a b ≡ true → a ≡ b
equal_ints a b w = grind (arith, ints)

pub same_number : (n m : ℕ) → (n == m) ≡ true → n ≡ m
same_number n m w = grind (arith, nat_tests)

pub number_itself : (n : ℕ) → (n == n) ≡ true
number_itself n = grind (arith, nat_tests)

pub equal_numbers : (n m : ℕ) → n ≡ m → (n == m) ≡ true
equal_numbers n m e = subst (λ k. (n == k) ≡ true) e (number_itself n)

pub other_number : (n m : ℕ) → not (n == m) ≡ true → n ≢ m
other_number n m w e = no_so (sym (not-true (n == m) w) ∙ equal_numbers n m e)

pub has_number : (x : Option ℤ) (z : ℤ) → has_some (are_equal z) x ≡ true → x ≡ Some z
has_number None z w = no_so w
has_number (Some y) z w = ap Some (sym (equal_ints z y w))

same_span : (a b : Span) → is_same_span a b ≡ true → a ≡ b
same_span a b w =
    ap (λ (z : ℤ). record { low = z; high = a.high }) (equal_ints a.low b.low (left (are_equal a.low b.low) (are_equal a.high b.high) w))
    ∙ ap (λ (z : ℤ). record { low = b.low; high = z }) (equal_ints a.high b.high (right (are_equal a.low b.low) (are_equal a.high b.high) w))

same_index : (i j : Index) → is_same_index i j ≡ true → i ≡ j
same_index (Known a) (Known b) w = ap Known (same_span a b w)
same_index (Known a) (Open low) w = no_so w
same_index (Open low) (Known b) w = no_so w
same_index (Open low) (Open other) w = ap (λ z. Open z) (equal_ints low other w)

pub same_indexes : (xs ys : List Index) → are_same_indexes xs ys ≡ true → xs ≡ ys
same_indexes [] [] w = refl
same_indexes [] (j ∷ ys) w = no_so w
same_indexes (i ∷ xs) [] w = no_so w
same_indexes (i ∷ xs) (j ∷ ys) w =
    ap (λ k. k ∷ xs) (same_index i j (left (is_same_index i j) (are_same_indexes xs ys) w)) ∙ ap (λ ks. j ∷ ks) (same_indexes xs ys (right (is_same_index i j) (are_same_indexes xs ys) w))

variable_itself : (x : Variable) → is_same x x ≡ true
variable_itself (Global x) = number_itself x
variable_itself (Local x) = number_itself x

pub equal_variables : (x y : Variable) → x ≡ y → is_same x y ≡ true
equal_variables x y e = subst (λ z. is_same x z ≡ true) e (variable_itself x)

subject_itself : (x : Subject) → is_one x x ≡ true
subject_itself (AVariable x) = variable_itself x
subject_itself (ACollection c) = number_itself c

-- a subject, which is another one
pub other_subject : (s : Option Subject) (x : Subject) → has_some (λ y. not (is_one y x)) s ≡ true → (is_some s ≡ true) × (s ≢ Some x)
other_subject None x w = no_so w
other_subject (Some y) x w = (refl, λ e. no_so (sym (not-true (is_one y x) w) ∙ subst (λ z. is_one y z ≡ true) (let h : Some y ≡ Some x = e in cc) (subject_itself y)))
