-- Loops that sum up what the elements of a list add.
use Rattle.std.specs.Prelude.{◌≡◌, ℕ, ◌+◌, ◌<◌, ◌≤◌, List, [], ◌∷◌, length, drop}
use Rattle.std.proofs.Common.{ap, ◌∙◌, get_or, arith}
use Rattle.std.proofs.lemmas.List.{drop_more, at_drop_all}
use Rattle.tu_room_parts.specs.declared.capped.TheConstants.{MOST_ROOM}
use Rattle.tu_room_parts.specs.Capped.{capped}

-- F is the sum of what the elements of a list add, and of what stands behind them
pub record Sums {A : Type 0} (F : List A → ℕ) (one : A → ℕ) (last : ℕ) : Type 0 where
  pub none : F [] ≡ last
  pub more : (x : A) (xs : List A) → F (x ∷ xs) ≡ capped (one x + F xs)

pub capped_within : (a b : ℕ) → capped (capped a + b) ≡ capped (a + b)
capped_within a b = omega arith

pub within_capped : (a b : ℕ) → capped (a + capped b) ≡ capped (a + b)
within_capped a b = omega arith

-- three numbers grouped to either side
pub regrouped : (a b c : ℕ) → capped (a + capped (b + c)) ≡ capped (capped (a + b) + c)
regrouped a b c = omega arith

-- the first k elements were added
pub record Summed {A : Type 0} (F : List A → ℕ) (xs : List A) (k sum : ℕ) : Type 0 where
  pub is : capped (sum + F (drop k xs)) ≡ F xs
  pub low : sum ≤ MOST_ROOM

capped_all : {A : Type 0} {F : List A → ℕ} {one : A → ℕ} {last : ℕ} → Sums F one last → last ≤ MOST_ROOM → (xs : List A) → capped (F xs) ≡ F xs
capped_all s le [] = omega (arith, s.none)
capped_all {F = F} {one = one} s le (x ∷ xs) = omega (arith, s.more x xs)

pub begun : {A : Type 0} {F : List A → ℕ} {one : A → ℕ} {last : ℕ} → Sums F one last → last ≤ MOST_ROOM → (xs : List A) → Summed F xs 0 0
begun s le xs = record { is = omega (arith, capped_all s le xs); low = omega arith }

-- The k-th element was added too. Where a list has one, any default reads it.
pub next_at : {A : Type 0} {F : List A → ℕ} {one : A → ℕ} {last : ℕ} → Sums F one last → (xs : List A) (k sum new : ℕ) (d : A) → Summed F xs k sum → k < length xs → new ≡ capped (sum + one (get_or xs k d)) → Summed F xs (k + 1) new
next_at {F = F} {one = one} s xs k sum new d before lt o =
    let x = get_or xs k d in
    let step : F (drop k xs) ≡ capped (one x + F (drop (k + 1) xs)) = ap F (drop_more xs k d lt) ∙ s.more x (drop (k + 1) xs) in
    record { is = omega (arith, o, step, before.is, regrouped sum (one x) (F (drop (k + 1) xs))); low = omega (arith, o) }

pub next : {A : Type 0} {F : List A → ℕ} {one : A → ℕ} {last : ℕ} → Sums F one last → (xs : List A) (k sum new : ℕ) (x : A) → Summed F xs k sum → k < length xs → x ≡ get_or xs k x → new ≡ capped (sum + one x) → Summed F xs (k + 1) new
next {one = one} s xs k sum new x before lt e o = next_at s xs k sum new x before lt (o ∙ ap (λ z. capped (sum + one z)) e)

-- with what stands behind the elements, and without
pub all_and : {A : Type 0} {F : List A → ℕ} {one : A → ℕ} {last : ℕ} → Sums F one last → (xs : List A) (k sum : ℕ) → Summed F xs k sum → length xs ≤ k → capped (sum + last) ≡ F xs
all_and {F = F} s xs k sum before le = omega (arith, s.none, before.is, at_drop_all F xs k le)

pub all : {A : Type 0} {F : List A → ℕ} {one : A → ℕ} → Sums F one 0 → (xs : List A) (k sum : ℕ) → Summed F xs k sum → length xs ≤ k → sum ≡ F xs
all {F = F} s xs k sum before le = omega (arith, s.none, before.is, before.low, at_drop_all F xs k le)
