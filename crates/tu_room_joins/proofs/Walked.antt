-- Loops that sum up joins while changes are noted.
use Rattle.std.specs.Prelude.{◌≡◌, ℕ, ◌+◌, ◌<◌, ◌≤◌, List, [], ◌++◌, length}
use Rattle.std.proofs.Common.{ap, ◌∙◌, get_or, refl}
use Rattle.tu_room_parts.specs.Capped.{capped}
use Rattle.tu_room_parts.specs.declared.capped.TheConstants.{MOST_ROOM}
use Rattle.tu_room_parts.proofs.Sums as sums
use Rattle.tu_room_parts.proofs.Sums.{Sums, Summed}
use Rattle.tu_room_changes.proofs.Grown as grown
use Rattle.tu_room_changes.proofs.Grown.{Rows, Grown}

-- the first k elements of a list were walked, and the scalars are what they were
pub record Walked {A S : Type 0} (J : S → List A → ℕ) (F : List A → List ℕ) (xs : List A) (k sum : ℕ) (s t : S) (old new : List ℕ) : Type 0 where
  pub joins : Summed (J s) xs k sum
  pub changes : Grown F xs k old new
  pub same : t ≡ s

pub begun : {A S : Type 0} {J : S → List A → ℕ} {F : List A → List ℕ} {one : A → ℕ} {last : ℕ} {s : S} {old : List ℕ} → Sums (J s) one last → last ≤ MOST_ROOM → (xs : List A) → Walked J F xs 0 0 s s old old
begun j le xs = record { joins = sums.begun j le xs; changes = grown.begun; same = refl }

-- one more was walked
pub next : {A S : Type 0} {J : S → List A → ℕ} {F : List A → List ℕ} {part : A → List ℕ} {last : ℕ} {end : List ℕ} → (one : S → A → ℕ) (s : S) → Sums (J s) (one s) last → Rows F part end → (xs : List A) (k sum new : ℕ) (t w : S) (old v noted : List ℕ) (x : A) (n : ℕ)
    → Walked J F xs k sum s t old v → k < length xs → x ≡ get_or xs k x → new ≡ capped (sum + n) → n ≡ one t x → noted ≡ v ++ part x → w ≡ t → Walked J F xs (k + 1) new s w old noted
next one s j f xs k sum new t w old v noted x n before lt e o is added same =
    record {
      joins = sums.next j xs k sum new x before.joins lt e (o ∙ ap (λ z. capped (sum + z)) (is ∙ ap (λ z. one z x) before.same));
      changes = grown.next f xs k old v noted x before.changes lt e added;
      same = same ∙ before.same;
    }

-- with what stands behind the elements, and without
pub all_joins_and : {A S : Type 0} {J : S → List A → ℕ} {F : List A → List ℕ} {one : A → ℕ} → (last : S → ℕ) (s : S) → Sums (J s) one (last s) → (xs : List A) (k sum new : ℕ) (t : S) (old v : List ℕ) (n : ℕ) → Walked J F xs k sum s t old v → length xs ≤ k → new ≡ capped (sum + n) → n ≡ last t → new ≡ J s xs
all_joins_and last s j xs k sum new t old v n before le o is = o ∙ ap (λ z. capped (sum + z)) (is ∙ ap last before.same) ∙ sums.all_and j xs k sum before.joins le

pub all_changes_and : {A S : Type 0} {J : S → List A → ℕ} {F : List A → List ℕ} {part : A → List ℕ} {end : List ℕ} → Rows F part end → (xs : List A) (k sum : ℕ) (s t : S) (old v new : List ℕ) → Walked J F xs k sum s t old v → length xs ≤ k → new ≡ v ++ end → new ≡ old ++ F xs
all_changes_and f xs k sum s t old v new before le o = grown.all_and f xs k old v new before.changes le o

pub all_joins_of : {A S : Type 0} {J : S → List A → ℕ} {F : List A → List ℕ} {one : A → ℕ} → (s : S) → Sums (J s) one 0 → (xs : List A) (k sum : ℕ) (t : S) (old v : List ℕ) → Walked J F xs k sum s t old v → length xs ≤ k → sum ≡ J s xs
all_joins_of s j xs k sum t old v before le = sums.all j xs k sum before.joins le

pub all_changes_of : {A S : Type 0} {J : S → List A → ℕ} {F : List A → List ℕ} {part : A → List ℕ} → Rows F part [] → (xs : List A) (k sum : ℕ) (s t : S) (old v : List ℕ) → Walked J F xs k sum s t old v → length xs ≤ k → v ≡ old ++ F xs
all_changes_of f xs k sum s t old v before le = grown.all f xs k old v before.changes le
