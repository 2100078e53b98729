-- Two lists side by side, one of which is at its end.
use Rattle.std.proofs.Common.{◌≡◌, ℕ, ◌≤◌, min, List, [], ◌∷◌, length, map, drop, refl, arith}
use Rattle.std.proofs.lemmas.Bool.{cases_lt}
use Rattle.std.proofs.lemmas.List.{drop_all}
use Rattle.std.proofs.Common.{inl, inr}
use Rattle.ir_form.specs.Units.{Head}
use Rattle.rv_layout.specs.Calling.{passing, passing_length}

length_nil : (h k : Head) (ts : List ℕ) → passing_length h k ts [] ≡ 0
length_nil h k [] = refl
length_nil h k (t ∷ ts) = refl

words_nil : (h k : Head) (ts : List ℕ) → passing h k ts [] ≡ []
words_nil h k [] = refl
words_nil h k (t ∷ ts) = refl

module _ (h k : Head) (f g : ℕ → ℕ) (ts xs : List ℕ) (n : ℕ) where
  pub passing_length_end : min (length ts) (length xs) ≤ n → passing_length h k (map g (drop n ts)) (map f (drop n xs)) ≡ 0
  passing_length_end l = elim (cases_lt (length xs) (length ts)) [
    | inl a ↦ rw (drop_all n xs (omega arith)) (length_nil h k (map g (drop n ts)))
    | inr b ↦ rw (drop_all n ts (omega arith)) refl
  ]

  pub passing_end : min (length ts) (length xs) ≤ n → passing h k (map g (drop n ts)) (map f (drop n xs)) ≡ []
  passing_end l = elim (cases_lt (length xs) (length ts)) [
    | inl a ↦ rw (drop_all n xs (omega arith)) (words_nil h k (map g (drop n ts)))
    | inr b ↦ rw (drop_all n ts (omega arith)) refl
  ]
