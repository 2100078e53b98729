-- Flags of locals, one after the other.
use Rattle.std.specs.Prelude.{◌≡◌, ℕ, zero, suc, ◌+◌, ◌-◌, ◌==◌, ◌<◌, ◌≤◌, Bool, true, false, List, [], ◌∷◌, ◌++◌, length, take, nat_lt, cond, fold, count_by, if◌then◌else◌}
use Rattle.std.proofs.Common.{ap, sym, ◌∙◌, refl, arith, get_or, set}
use Rattle.std.proofs.lemmas.List.{take_more, take_all}
use Rattle.tu_room_parts.specs.Capped.{capped}
use Rattle.tu_core.specs.Rooms.{one_if}
use Rattle.tu_room_changes.specs.Changed.{times}
use Rattle.tu_room_changes.proofs.Counted.{times_append}
use Rattle.tu_room_joins.specs.Flags.{flag_at, with_flag, stands, flag_left, left, both, hits, flagged}

same_number : (n : ℕ) → (n == n) ≡ true
same_number n = grind arith

lower_number : (n x : ℕ) → x < n → (n == x) ≡ false
lower_number n x lt = grind (arith, lt)

higher_number : (n x : ℕ) → n < x → (n == x) ≡ false
higher_number n x lt = grind (arith, lt)

is_number : (n x : ℕ) → (n == x) ≡ true → n ≡ x
is_number n x e = grind (arith, e)

-- with a local one behind the other
abbrev pub or_so : Bool → Bool → Bool
or_so true b = true
or_so false b = b

stands_or : (b : Bool) (n : ℕ) → nat_lt 0 (n + (one_if b + 0)) ≡ or_so b (nat_lt 0 n)
stands_or true n = grind arith
stands_or false n = ap (nat_lt 0) (none_added n)
  where
    none_added : (n : ℕ) → n + (0 + 0) ≡ n
    none_added n = omega arith

pub stands_more : (n x : ℕ) (xs : List ℕ) → stands n (xs ++ x ∷ []) ≡ or_so (n == x) (stands n xs)
stands_more n x xs = ap (nat_lt 0) (sym (times_append n xs (x ∷ []))) ∙ stands_or (n == x) (times n xs)

add_none : (n : ℕ) → n + 0 ≡ n
add_none n = omega arith

moved : (n k : ℕ) → n + suc k ≡ suc n + k
moved n k = omega arith

-- by index
at_index : (n k : ℕ) (fs : List Bool) (d : Bool) → k < length fs → get_or fs k d ≡ flag_at n (n + k) fs
at_index n k [] d lt = absurd (omega (arith, lt))
at_index n zero (f ∷ fs) d lt = ap (λ b. if b then f else flag_at (suc n) (n + 0) fs) (sym (ap (λ m. n == m) (add_none n) ∙ same_number n))
at_index n (suc k) (f ∷ fs) d lt = at_index (suc n) k fs d (omega (arith, lt)) ∙ ap (λ m. flag_at (suc n) m fs) (sym (moved n k)) ∙ ap (λ b. if b then f else flag_at (suc n) (n + suc k) fs) (sym (higher_number n (n + suc k) (omega arith)))

at_no_index : (n k : ℕ) (fs : List Bool) → length fs ≤ k → false ≡ flag_at n (n + k) fs
at_no_index n k [] le = refl
at_no_index n zero (f ∷ fs) le = absurd (omega (arith, le))
at_no_index n (suc k) (f ∷ fs) le = at_no_index (suc n) k fs (omega (arith, le)) ∙ ap (λ m. flag_at (suc n) m fs) (sym (moved n k)) ∙ ap (λ b. if b then f else flag_at (suc n) (n + suc k) fs) (sym (higher_number n (n + suc k) (omega arith)))

pub at_below : (n x : ℕ) (fs : List Bool) → x < n → false ≡ flag_at n x fs
at_below n x [] lt = refl
at_below n x (f ∷ fs) lt = at_below (suc n) x fs (omega (arith, lt)) ∙ ap (λ b. if b then f else flag_at (suc n) x fs) (sym (lower_number n x lt))

from_first : (n x : ℕ) → n ≤ x → n + (x - n) ≡ x
from_first n x le = omega (arith, le)

pub at_past : (n x : ℕ) (fs : List Bool) → n ≤ x → length fs ≤ x - n → false ≡ flag_at n x fs
at_past n x fs le past = at_no_index n (x - n) fs past ∙ ap (λ m. flag_at n m fs) (from_first n x le)

pub at_there : (n x : ℕ) (fs : List Bool) (d : Bool) → n ≤ x → x - n < length fs → get_or fs (x - n) d ≡ flag_at n x fs
at_there n x fs d le lt = at_index n (x - n) fs d lt ∙ ap (λ m. flag_at n m fs) (from_first n x le)

pub with_below : (n x : ℕ) (new : Bool) (fs : List Bool) → x < n → fs ≡ with_flag n x new fs
with_below n x new [] lt = refl
with_below n x new (f ∷ fs) lt =
    let head : f ≡ (if n == x then new else f) = ap (λ b. if b then new else f) (sym (lower_number n x lt)) in
    λ i. head i ∷ with_below (suc n) x new fs (omega (arith, lt)) i

with_index : (n k : ℕ) (new : Bool) (fs : List Bool) → k < length fs → set fs k new ≡ with_flag n (n + k) new fs
with_index n k new [] lt = absurd (omega (arith, lt))
with_index n zero new (f ∷ fs) lt =
    let head : new ≡ (if n == n + 0 then new else f) = ap (λ b. if b then new else f) (sym (ap (λ m. n == m) (add_none n) ∙ same_number n)) in
    let tail : fs ≡ with_flag (suc n) (n + 0) new fs = with_below (suc n) (n + 0) new fs (omega arith) in
    λ i. head i ∷ tail i
with_index n (suc k) new (f ∷ fs) lt =
    let head : f ≡ (if n == n + suc k then new else f) = ap (λ b. if b then new else f) (sym (higher_number n (n + suc k) (omega arith))) in
    let tail : set fs k new ≡ with_flag (suc n) (n + suc k) new fs = with_index (suc n) k new fs (omega (arith, lt)) ∙ ap (λ m. with_flag (suc n) m new fs) (sym (moved n k)) in
    λ i. head i ∷ tail i

pub with_there : (n x : ℕ) (new : Bool) (fs : List Bool) → n ≤ x → x - n < length fs → set fs (x - n) new ≡ with_flag n x new fs
with_there n x new fs le lt = with_index n (x - n) new fs lt ∙ ap (λ m. with_flag n m new fs) (from_first n x le)

with_all_past : (n k : ℕ) (new : Bool) (fs : List Bool) → length fs ≤ k → fs ≡ with_flag n (n + k) new fs
with_all_past n k new [] le = refl
with_all_past n zero new (f ∷ fs) le = absurd (omega (arith, le))
with_all_past n (suc k) new (f ∷ fs) le =
    let head : f ≡ (if n == n + suc k then new else f) = ap (λ b. if b then new else f) (sym (higher_number n (n + suc k) (omega arith))) in
    let tail : fs ≡ with_flag (suc n) (n + suc k) new fs = with_all_past (suc n) k new fs (omega (arith, le)) ∙ ap (λ m. with_flag (suc n) m new fs) (sym (moved n k)) in
    λ i. head i ∷ tail i

pub with_past : (n x : ℕ) (new : Bool) (fs : List Bool) → n ≤ x → length fs ≤ x - n → fs ≡ with_flag n x new fs
with_past n x new fs le past = with_all_past n (x - n) new fs past ∙ ap (λ m. with_flag n m new fs) (from_first n x le)

-- the flags at first, and at last
pub left_none : (n : ℕ) (fs : List Bool) → fs ≡ left n fs [] []
left_none n [] = refl
left_none n (f ∷ fs) = ap (λ z. f ∷ z) (left_none (suc n) fs)

pub left_all : (n : ℕ) (fs : List Bool) (xs : List ℕ) → left n fs xs xs ≡ fs
left_all n [] xs = refl
left_all n (f ∷ fs) xs = λ i. head f (stands n xs) i ∷ left_all (suc n) fs xs i
  where
    head : (f b : Bool) → flag_left f b b ≡ f
    head f true = refl
    head f false = refl

-- one more is met
pub left_more : (n x : ℕ) (fs : List Bool) (xs : List ℕ) → with_flag n x false (left n fs xs []) ≡ left n fs (xs ++ x ∷ []) []
left_more n x [] xs = refl
left_more n x (f ∷ fs) xs = λ i. whole i ∷ left_more (suc n) x fs xs i
  where
    head : (e f m : Bool) → (if e then false else flag_left f m false) ≡ flag_left f (or_so e m) false
    head true f m = refl
    head false f m = refl

    whole : (if n == x then false else flag_left f (stands n xs) false) ≡ flag_left f (stands n (xs ++ x ∷ [])) false
    whole = head (n == x) f (stands n xs) ∙ ap (λ b. flag_left f b false) (sym (stands_more n x xs))

-- one more is restored
left_again : (n x : ℕ) (new : Bool) (fs : List Bool) (xs ys : List ℕ) → (n ≤ x → new ≡ flag_at n x fs) → with_flag n x new (left n fs xs ys) ≡ left n fs xs (ys ++ x ∷ [])
left_again n x new [] xs ys is = refl
left_again n x new (f ∷ fs) xs ys is = λ i. whole i ∷ left_again (suc n) x new fs xs ys further i
  where
    head : (e f m r : Bool) → (e ≡ true → new ≡ f) → (if e then new else flag_left f m r) ≡ flag_left f m (or_so e r)
    head true f true r h = h refl
    head true f false r h = h refl
    head false f m r h = refl

    own : (n == x) ≡ true → new ≡ f
    own e = is (omega (arith, is_number n x e)) ∙ ap (λ b. if b then f else flag_at (suc n) x fs) e

    whole : (if n == x then new else flag_left f (stands n xs) (stands n ys)) ≡ flag_left f (stands n xs) (stands n (ys ++ x ∷ []))
    whole = head (n == x) f (stands n xs) (stands n ys) own ∙ ap (λ b. flag_left f (stands n xs) b) (sym (stands_more n x ys))

    further : suc n ≤ x → new ≡ flag_at (suc n) x fs
    further le = is (omega (arith, le)) ∙ ap (λ b. if b then f else flag_at (suc n) x fs) (higher_number n x (omega (arith, le)))

pub restored_more : (n x : ℕ) (fs : List Bool) (xs ys : List ℕ) → with_flag n x (flag_at n x fs) (left n fs xs ys) ≡ left n fs xs (ys ++ x ∷ [])
restored_more n x fs xs ys = left_again n x (flag_at n x fs) fs xs ys (λ le. refl)

-- one more is counted
hits_below : (n x : ℕ) (fs : List Bool) (xs : List ℕ) → x < n → hits n fs (xs ++ x ∷ []) ≡ hits n fs xs
hits_below n x [] xs lt = refl
hits_below n x (f ∷ fs) xs lt = λ i. one_if (both f (same i)) + hits_below (suc n) x fs xs (omega (arith, lt)) i
  where
    same : stands n (xs ++ x ∷ []) ≡ stands n xs
    same = stands_more n x xs ∙ ap (λ b. or_so b (stands n xs)) (lower_number n x lt)

hits_step : (e f m : Bool) (more rest : ℕ) (later : Bool) → (e ≡ true → more ≡ rest) → (e ≡ false → more ≡ rest + one_if later) → one_if (both f (or_so e m)) + more ≡ one_if (both f m) + rest + one_if (if e then flag_left f m false else later)
hits_step true true true more rest later h k = omega (arith, h refl)
hits_step true true false more rest later h k = omega (arith, h refl)
hits_step true false true more rest later h k = omega (arith, h refl)
hits_step true false false more rest later h k = omega (arith, h refl)
hits_step false f m more rest later h k = omega (arith, k refl)

pub hits_more : (n x : ℕ) (fs : List Bool) (xs : List ℕ) → hits n fs (xs ++ x ∷ []) ≡ hits n fs xs + one_if (flag_at n x (left n fs xs []))
hits_more n x [] xs = refl
hits_more n x (f ∷ fs) xs =
    ap (λ b. one_if (both f b) + hits (suc n) fs (xs ++ x ∷ [])) (stands_more n x xs)
    ∙ hits_step (n == x) f (stands n xs) (hits (suc n) fs (xs ++ x ∷ [])) (hits (suc n) fs xs) (flag_at (suc n) x (left (suc n) fs xs [])) (λ e. hits_below (suc n) x fs xs (omega (arith, is_number n x e))) (λ e. hits_more (suc n) x fs xs)

pub hits_none : (n : ℕ) (fs : List Bool) → 0 ≡ hits n fs []
hits_none n [] = refl
hits_none n (f ∷ fs) = none f (hits_none (suc n) fs)
  where
    none : (f : Bool) {k : ℕ} → 0 ≡ k → 0 ≡ one_if (both f false) + k
    none true e = omega (arith, e)
    none false e = omega (arith, e)

-- a count of a list is that of its first and of the rest
count_from : (p : ℕ → Bool) (xs : List ℕ) (n : ℕ) → fold (λ a x. a + cond (p x) 1 0) n xs ≡ n + count_by p xs
count_from p [] n = omega arith
count_from p (x ∷ xs) n = omega (arith, count_from p xs (n + cond (p x) 1 0), count_from p xs (0 + cond (p x) 1 0))

pub hits_are : (n : ℕ) (fs : List Bool) (xs : List ℕ) → hits n fs xs ≡ count_by (λ x. stands x xs) (flagged n fs)
hits_are n [] xs = refl
hits_are n (false ∷ fs) xs = omega (arith, hits_are (suc n) fs xs)
hits_are n (true ∷ fs) xs = omega (arith, hits_are (suc n) fs xs, count_from (λ x. stands x xs) (flagged (suc n) fs) (0 + cond (stands n xs) 1 0), one (stands n xs))
  where
    one : (b : Bool) → one_if b ≡ 0 + cond b 1 0
    one true = refl
    one false = refl

-- loops over the list
pub met_next : (n : ℕ) (fs : List Bool) (xs : List ℕ) (k count after : ℕ) (us new : List Bool) (flag : Bool) → (count ≡ capped (hits n fs (take k xs))) × (us ≡ left n fs (take k xs) []) → k < length xs → flag ≡ flag_at n (get_or xs k 0) us → after ≡ capped (count + one_if flag) → new ≡ with_flag n (get_or xs k 0) false us
    → (after ≡ capped (hits n fs (take (k + 1) xs))) × (new ≡ left n fs (take (k + 1) xs) [])
met_next n fs xs k count after us new flag before lt is o e =
    let x = get_or xs k 0 in
    let longer : take (k + 1) xs ≡ take k xs ++ x ∷ [] = take_more xs k 0 lt in
    let own : flag ≡ flag_at n x (left n fs (take k xs) []) = is ∙ ap (flag_at n x) before.1 in
    let more : hits n fs (take (k + 1) xs) ≡ hits n fs (take k xs) + one_if flag = ap (hits n fs) longer ∙ hits_more n x fs (take k xs) ∙ ap (λ b. hits n fs (take k xs) + one_if b) (sym own) in
    (omega (arith, o, before.0, more), e ∙ ap (with_flag n x false) before.1 ∙ left_more n x fs (take k xs) ∙ ap (λ z. left n fs z []) (sym longer))

pub restored_next : (n : ℕ) (fs : List Bool) (xs : List ℕ) (k : ℕ) (us new : List Bool) (flag : Bool) → us ≡ left n fs xs (take k xs) → k < length xs → flag ≡ flag_at n (get_or xs k 0) fs → new ≡ with_flag n (get_or xs k 0) flag us → new ≡ left n fs xs (take (k + 1) xs)
restored_next n fs xs k us new flag before lt is e =
    let x = get_or xs k 0 in
    e ∙ ap (λ b. with_flag n x b us) is ∙ ap (with_flag n x (flag_at n x fs)) before ∙ restored_more n x fs xs (take k xs) ∙ ap (left n fs xs) (sym (take_more xs k 0 lt))

pub restored_all : (n : ℕ) (fs : List Bool) (xs : List ℕ) (k : ℕ) (us : List Bool) → us ≡ left n fs xs (take k xs) → length xs ≤ k → us ≡ fs
restored_all n fs xs k us before le = before ∙ ap (left n fs xs) (take_all k xs le) ∙ left_all n fs xs
