-- A walk over definitions.
use Rattle.std.proofs.Common.{◌≡◌, ℕ, zero, suc, ◌+◌, ◌-◌, ◌^◌, ◌<◌, ◌≤◌, ◌==◌, Bool, true, false, cond, min, count_by, List, [], ◌∷◌, ◌++◌, refl, sym, ap, ◌∙◌, length, drop, get_or, add-one, zero-add, arith}
use Rattle.std.specs.Prelude.{if◌then◌else◌}
use Rattle.std.proofs.Math.Seq.{drop-cons}
use Rattle.std.proofs.lemmas.Bool.Decides.{nat_tests}
use Rattle.std.specs.List.{list_all}
use Rattle.std.proofs.lemmas.List.Sums.{sum_by-cons, list_all-from_AllPass}
use Rattle.ir_form.specs.declared.op.Op.{Op}
use Rattle.ir_form.specs.declared.op.Arm.{Arm}
use Rattle.ir_form.specs.declared.tally.Tally.{Tally}
use Rattle.ir_form.specs.Values.{defined, defined_list, defined_region, defined_each}
use Rattle.ir_form.specs.Tests.{started, met, tally_of, is_once}

pub tally-append : (t : Tally) (xs ys : List ℕ) → tally_of t (xs ++ ys) ≡ tally_of (tally_of t xs) ys
tally-append t [] ys = refl
tally-append t (x ∷ xs) ys = tally-append (met t x) xs ys

pub ops_more : (t : Tally) (i : ℕ) (xs : List Op) (d : Op) → i < length xs → tally_of t (defined_list (drop i xs)) ≡ tally_of (tally_of t (defined (get_or xs i d))) (defined_list (drop (i + 1) xs))
ops_more t i xs d h = rw (add-one, drop-cons xs i d) (tally-append t (defined (get_or xs i d)) _)

pub arms_more : (t : Tally) (i : ℕ) (xs : List Arm) (d : Arm) → i < length xs → tally_of t (defined_each (drop i xs)) ≡ tally_of (tally_of t (defined_region (get_or xs i d).region)) (defined_each (drop (i + 1) xs))
arms_more t i xs d h = rw (add-one, drop-cons xs i d) (tally-append t (defined_region (get_or xs i d).region) _)

pub count-cons : (p : ℕ → Bool) (x : ℕ) (xs : List ℕ) → count_by p (x ∷ xs) ≡ cond (p x) 1 0 + count_by p xs
count-cons p x xs = sum_by-cons (λ y. cond (p y) 1 0) x xs

count_miss : (p : ℕ → Bool) (x : ℕ) (xs : List ℕ) → p x ≡ false → count_by p (x ∷ xs) ≡ count_by p xs
count_miss p x xs e = count-cons p x xs ∙ ap (λ b. cond b 1 0 + count_by p xs) e ∙ zero-add (count_by p xs)

found_step : (b : Bool) (f n m : ℕ) → f ≤ m → min ((if b then min (f + 1) m else f) + n) m ≡ min (f + (cond b 1 0 + n)) m
found_step true f n m h = omega arith
found_step false f n m h = omega arith

found_within : (b : Bool) (f m : ℕ) → f ≤ m → (if b then min (f + 1) m else f) ≤ m
found_within true f m h = omega arith
found_within false f m h = h

pub found-tally : (t : Tally) (xs : List ℕ) → t.found ≤ 2 ^ 64 - 1 → (tally_of t xs).found ≡ min (t.found + count_by (λ x. x == t.sought) xs) (2 ^ 64 - 1)
found-tally t [] h = omega arith
found-tally t (x ∷ xs) h =
    let p : ℕ → Bool = λ y. y == t.sought in
    found-tally (met t x) xs (found_within (p x) t.found (2 ^ 64 - 1) h) ∙ found_step (p x) t.found (count_by p xs) (2 ^ 64 - 1) h ∙ ap (λ n. min (t.found + n) (2 ^ 64 - 1)) (sym (count-cons p x xs))

pub found-started : (value : ℕ) (xs : List ℕ) → (tally_of (started value) xs).found ≡ min (count_by (λ x. x == value) xs) (2 ^ 64 - 1)
found-started value xs = found-tally (started value) xs (omega arith) ∙ ap (λ n. min n (2 ^ 64 - 1)) (zero-add (count_by (λ x. x == value) xs))

pub values-tally : (t : Tally) (xs : List ℕ) → t.values ≤ 2 ^ 64 - 1 → (tally_of t xs).values ≡ min (t.values + length xs) (2 ^ 64 - 1)
values-tally t [] h = omega arith
values-tally t (x ∷ xs) h = let e = values-tally (met t x) xs (omega arith) in omega arith

pub values-started : (sought : ℕ) (xs : List ℕ) → (tally_of (started sought) xs).values ≡ min (length xs) (2 ^ 64 - 1)
values-started sought xs = values-tally (started sought) xs (omega arith) ∙ ap (λ n. min n (2 ^ 64 - 1)) (zero-add (length xs))

met_rises : (t : Tally) (x : ℕ) → (met t x).rises ≡ true → (t.rises ≡ true) × (t.next ≤ x)
met_rises t x h = grind (arith, nat_tests)

-- where the numbers rise, they rose before
rose : (t : Tally) (xs : List ℕ) → (tally_of t xs).rises ≡ true → t.rises ≡ true
rose t [] h = h
rose t (x ∷ xs) h = (met_rises t x (rose (met t x) xs h)).0

none_below : (t : Tally) (xs : List ℕ) (y : ℕ) → (tally_of t xs).rises ≡ true → y < t.next → count_by (λ x. x == y) xs ≡ 0
none_below t [] y h l = refl
none_below t (x ∷ xs) y h l =
    let b : t.next ≤ x = (met_rises t x (rose (met t x) xs h)).1 in
    let e : count_by (λ z. z == y) xs ≡ 0 = none_below (met t x) xs y h (omega arith) in
    let n : (x == y) ≡ false = grind (arith, nat_tests) in
    count_miss (λ z. z == y) x xs n ∙ e

-- where the numbers rise, each is there once
pub all_once : (t : Tally) (xs : List ℕ) → (tally_of t xs).rises ≡ true → (k d : ℕ) → k < length xs → count_by (λ x. x == get_or xs k d) xs ≡ 1
all_once t [] h k d l = absurd (omega arith)
all_once t (x ∷ xs) h zero d l =
    let e : count_by (λ z. z == x) xs ≡ 0 = none_below (met t x) xs x h (omega arith) in
    let n : (x == x) ≡ true = grind (arith, nat_tests) in
    count-cons (λ z. z == x) x xs ∙ ap (λ b. cond b 1 0 + count_by (λ z. z == x) xs) n ∙ ap (λ m. 1 + m) e
all_once t (x ∷ xs) h (suc k) d l =
    let y : ℕ = get_or xs k d in
    let e : count_by (λ z. z == y) xs ≡ 1 = all_once (met t x) xs h k d (omega arith) in
    let far : y < x + 1 → ⊥ = λ b. let z = none_below (met t x) xs y h b in omega arith in
    let n : (x == y) ≡ false = grind (arith, nat_tests) in
    count_miss (λ z. z == y) x xs n ∙ e

pub rising_once : (t : Tally) (xs : List ℕ) → (tally_of t xs).rises ≡ true → list_all (is_once xs) xs ≡ true
rising_once t xs h = list_all-from_AllPass (is_once xs) xs (λ k d l. let e = all_once t xs h k d l in ap (λ n. n == 1) e)
