-- Loops that append what the elements of a list add.
use Rattle.std.specs.Prelude.{◌≡◌, ℕ, ◌+◌, ◌<◌, ◌≤◌, List, [], ◌∷◌, ◌++◌, length, drop}
use Rattle.std.proofs.Common.{ap, sym, ◌∙◌, get_or, refl, append_assoc, append-nil}
use Rattle.std.proofs.lemmas.List.{drop_more, at_drop_all}

-- F is what the elements of a list add, one behind the other, with what stands behind them
pub record Rows {A : Type 0} (F : List A → List ℕ) (one : A → List ℕ) (last : List ℕ) : Type 0 where
  pub none : F [] ≡ last
  pub more : (x : A) (xs : List A) → F (x ∷ xs) ≡ one x ++ F xs

-- what the first k elements add was appended
pub record Grown {A : Type 0} (F : List A → List ℕ) (xs : List A) (k : ℕ) (old new : List ℕ) : Type 0 where
  pub is : new ++ F (drop k xs) ≡ old ++ F xs

pub begun : {A : Type 0} {F : List A → List ℕ} {xs : List A} {old : List ℕ} → Grown F xs 0 old old
begun = record { is = refl }

pub next : {A : Type 0} {F : List A → List ℕ} {one : A → List ℕ} {last : List ℕ} → Rows F one last → (xs : List A) (k : ℕ) (u v w : List ℕ) (x : A) → Grown F xs k u v → k < length xs → x ≡ get_or xs k x → w ≡ v ++ one x → Grown F xs (k + 1) u w
next {F = F} {one = one} r xs k u v w x before lt e o =
    let rest = F (drop (k + 1) xs) in
    let step : F (drop k xs) ≡ one x ++ rest = ap F (drop_more xs k x lt ∙ ap (λ z. z ∷ drop (k + 1) xs) (sym e)) ∙ r.more x (drop (k + 1) xs) in
    record { is = ap (λ z. z ++ rest) o ∙ append_assoc v (one x) rest ∙ ap (λ z. v ++ z) (sym step) ∙ before.is }

-- with what stands behind the elements, and without
pub all_and : {A : Type 0} {F : List A → List ℕ} {one : A → List ℕ} {last : List ℕ} → Rows F one last → (xs : List A) (k : ℕ) (u v w : List ℕ) → Grown F xs k u v → length xs ≤ k → w ≡ v ++ last → w ≡ u ++ F xs
all_and {F = F} r xs k u v w before le o = o ∙ ap (λ z. v ++ z) (sym (at_drop_all F xs k le ∙ r.none)) ∙ before.is

pub all : {A : Type 0} {F : List A → List ℕ} {one : A → List ℕ} → Rows F one [] → (xs : List A) (k : ℕ) (u v : List ℕ) → Grown F xs k u v → length xs ≤ k → v ≡ u ++ F xs
all r xs k u v before le = all_and r xs k u v v before le (sym (append-nil v))
