-- The least fault is one of the faults, and none is before it.
use Prim.Native.Nat.{suc}
use Rattle.std.proofs.Common.{◌≡◌, ℕ, Bool, true, false, List, [], ◌∷◌, Option, Some, None, refl, sym, subst, arith}
use Rattle.std.specs.Prelude.{if◌then◌else◌, nat_lt, nat_eq, ◌||◌, ◌&&◌, All, Contains, slice_index_or}
use Rattle.std.proofs.lemmas.List.Elements.{All-cons, All-nil}
use Rattle.std.proofs.lemmas.Bool.Decides.{nat_tests}
use Rattle.tu_scope_rules.specs.declared.fault.Fault.{Fault}
use Rattle.tu_scope_rules.specs.Least.{least, earlier, is_before, kind_number, IsLeast}

before_itself : (a k : ℕ) → (nat_lt a a || (nat_eq a a && nat_lt k k)) ≡ false
before_itself a k = grind (arith, nat_tests)

before_turned : (a k b m : ℕ) → (nat_lt a b || (nat_eq a b && nat_lt k m)) ≡ true → (nat_lt b a || (nat_eq b a && nat_lt m k)) ≡ false
before_turned a k b m h = grind (arith, nat_tests)

before_along : (a k b m c n : ℕ) → (nat_lt a b || (nat_eq a b && nat_lt k m)) ≡ false → (nat_lt b c || (nat_eq b c && nat_lt m n)) ≡ false → (nat_lt a c || (nat_eq a c && nat_lt k n)) ≡ false
before_along a k b m c n h j = grind (arith, nat_tests)

pub none_least : (faults : List Fault) → least faults ≡ None → faults ≡ []
none_least [] e = refl
none_least (fault ∷ faults) e = absurd (cc)

contains_head : (x : Fault) (xs : List Fault) → Contains (x ∷ xs) x
contains_head x xs = (0, omega arith, refl)

contains_more : (x y : Fault) (xs : List Fault) → Contains xs y → Contains (x ∷ xs) y
contains_more x y xs h = (suc h.0, omega (arith, h.1), h.2)

pub least_is : (faults : List Fault) (fault : Fault) → least faults ≡ Some fault → IsLeast fault faults
least_is [] fault e = absurd (cc)
least_is (new ∷ faults) fault e = by (least faults) refl e (least_is faults) where
  itself : (f : Fault) → is_before f f ≡ false
  itself f = before_itself f.start (kind_number f.kind)

  by : (told : Option Fault) → least faults ≡ told → Some (earlier new told) ≡ Some fault → ((f : Fault) → least faults ≡ Some f → IsLeast f faults) → IsLeast fault (new ∷ faults)
  by None is e among =
      let nothing = none_least faults is in
      let same : new ≡ fault = cc in
      subst (λ f. IsLeast f (new ∷ faults)) same
      (contains_head new faults, All-cons (λ other. is_before other new ≡ false) new faults (itself new) (subst (λ fs. All (λ other. is_before other new ≡ false) fs) (sym nothing) (All-nil (λ other. is_before other new ≡ false))))
  by (Some old) is e among = chosen (is_before old new) refl (among old is) e where
    chosen : (b : Bool) → is_before old new ≡ b → IsLeast old faults → Some (if b then old else new) ≡ Some fault → IsLeast fault (new ∷ faults)
    chosen true h least_old e =
        let same : old ≡ fault = cc in
        subst (λ f. IsLeast f (new ∷ faults)) same (
          contains_more new old faults least_old.0,
          All-cons (λ other. is_before other old ≡ false) new faults (before_turned old.start (kind_number old.kind) new.start (kind_number new.kind) h) least_old.1,
        )
    chosen false h least_old e =
        let same : new ≡ fault = cc in
        subst (λ f. IsLeast f (new ∷ faults)) same (
          contains_head new faults,
          All-cons (λ other. is_before other new ≡ false) new faults (itself new)
              (λ k d below. before_along (slice_index_or faults k d).start (kind_number (slice_index_or faults k d).kind) old.start (kind_number old.kind) new.start (kind_number new.kind) (least_old.1 k d below) h),
        )
