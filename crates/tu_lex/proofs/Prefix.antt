-- The longest front part of a list whose items pass a test.
use Rattle.std.proofs.Common.{◌≡◌, ℕ, zero, suc, ◌+◌, ◌<◌, ◌≤◌, Bool, true, false, cond, ◌&&◌, List, [], ◌∷◌, length, take, refl, arith}
use Rattle.std.specs.List.{list_all, prefix_len}

pub both : (a b : Bool) → (a && b) ≡ true → (a ≡ true) × (b ≡ true)
both true true h = (refl, refl)
both true false h = absurd (cc)
both false b h = absurd (cc)

pub prefix_passes : (p : ℕ → Bool) (xs : List ℕ) → list_all p (take (prefix_len p xs) xs) ≡ true
prefix_passes p [] = refl
prefix_passes p (x ∷ xs) =
    let r = prefix_passes p xs in
    let s : 1 + prefix_len p xs ≡ suc (prefix_len p xs) = omega arith in
    elim (p x) as (λ b. p x ≡ b → list_all p (take (cond b (1 + prefix_len p xs) 0) (x ∷ xs)) ≡ true) [
      | true ↦ λ e. rw (s, e) r
      | false ↦ λ e. refl
    ] refl

-- a longer part does not pass
pub longer_fails : (p : ℕ → Bool) (xs : List ℕ) (k : ℕ) → prefix_len p xs < k → k ≤ length xs → list_all p (take k xs) ≡ false
longer_fails p [] k h w = absurd (omega arith)
longer_fails p (x ∷ xs) zero h w = absurd (omega arith)
longer_fails p (x ∷ xs) (suc k) h w =
    elim (p x) as (λ b. p x ≡ b → cond b (1 + prefix_len p xs) 0 < suc k → (b && list_all p (take k xs)) ≡ false) [
      | true ↦ λ e i. longer_fails p xs k (omega arith) (omega arith)
      | false ↦ λ e i. refl
    ] refl h

-- where the first item passes, the part is one longer than that of the others
pub prefix_more : (p : ℕ → Bool) (x : ℕ) (xs : List ℕ) → p x ≡ true → prefix_len p (x ∷ xs) ≡ suc (prefix_len p xs)
prefix_more p x xs e = rw e (omega arith)
