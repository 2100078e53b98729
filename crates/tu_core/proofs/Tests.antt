-- What a test that holds says: both parts of it, and that what it looks up is there.
use Rattle.std.proofs.Common.{◌≡◌, ℕ, zero, suc, Bool, true, false, List, [], ◌∷◌, Option, Some, None, ◌&&◌, arith, refl, subst}
use Rattle.std.specs.Prelude.{slice_get}
use Rattle.std.specs.List.{list_all}
use Rattle.tu_core.specs.Places.{has_some}

pub no_so : {A : Type 0} → false ≡ true → A
no_so e = absurd (let q : false ≡ true = e in grind (arith, q))

pub left : (a b : Bool) → (a && b) ≡ true → a ≡ true
left true b e = refl
left false b e = no_so e

pub right : (a b : Bool) → (a && b) ≡ true → b ≡ true
right true b e = e
right false b e = no_so e

-- an item that is there and passes a test
pub record Has (A : Type 0) (test : A → Bool) (x : Option A) : Type 0 where
  pub item : A
  pub there : x ≡ Some item
  pub passes : test item ≡ true

pub has_item : {A : Type 0} (test : A → Bool) (x : Option A) → has_some test x ≡ true → Has A test x
has_item test None e = no_so e
has_item test (Some a) e = record { item = a; there = refl; passes = e }

-- an item of a list of which all pass a test
pub all_pass : {A : Type 0} (test : A → Bool) (xs : List A) (n : ℕ) (a : A) → list_all test xs ≡ true → slice_get xs n ≡ Some a → test a ≡ true
all_pass test [] n a e there = absurd (let q : None ≡ Some a = there in grind (arith, q))
all_pass test (x ∷ xs) zero a e there = subst (λ y. test y ≡ true) (let q : Some x ≡ Some a = there in grind (arith, q)) (left (test x) (list_all test xs) e)
all_pass test (x ∷ xs) (suc n) a e there = all_pass test xs n a (right (test x) (list_all test xs) e) there
