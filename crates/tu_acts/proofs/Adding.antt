-- Loops that add the acts of the elements of a list from its end.
use Rattle.std.specs.Prelude.{◌≡◌, ℕ, ◌+◌, ◌-◌, ◌<◌, ◌≤◌, List, [], ◌∷◌, ◌++◌, length, drop}
use Rattle.std.proofs.Common.{ap, subst, sym, ◌∙◌, get_or, arith, append_assoc}
use Rattle.std.proofs.lemmas.List.{drop_more, get_or_default}
use Rattle.tu_core.specs.Acts.{Act}

-- F has the acts of the elements of a list in their order, and last behind them
pub record Adds {A : Type 0} (F : List A → List Act) (one : A → List Act) (last : List Act) : Type 0 where
  pub none : F [] ≡ last
  pub more : (x : A) (xs : List A) → F (x ∷ xs) ≡ one x ++ F xs

-- The acts of the k-th element were added too.
pub next : {A : Type 0} {F : List A → List Act} {one : A → List Act} {last : List Act} → Adds F one last → (xs : List A) (k : ℕ) (x : A) (before now new : List Act) →
    now ≡ F (drop (k + 1) xs) ++ before → k < length xs → x ≡ get_or xs k x → new ≡ one x ++ now → new ≡ F (drop k xs) ++ before
next {F = F} {one = one} s xs k x before now new h lt is e =
    e ∙ ap (λ ys. one x ++ ys) h ∙ sym (append_assoc (one x) (F (drop (k + 1) xs)) before)
    ∙ ap (λ ys. ys ++ before) (sym (s.more x (drop (k + 1) xs)) ∙ sym (ap F (drop_more xs k x lt) ∙ ap (λ y. F (y ∷ drop (k + 1) xs)) (sym is)))

-- The same from the number of those that are left.
pub next_at : {A : Type 0} {F : List A → List Act} {one : A → List Act} {last : List Act} → Adds F one last → (xs : List A) (place : ℕ) (d : A) (before now new : List Act) →
    now ≡ F (drop place xs) ++ before → 0 < place → place ≤ length xs → new ≡ one (get_or xs (place - 1) d) ++ now → new ≡ F (drop (place - 1) xs) ++ before
next_at {F = F} s xs place d before now new h some le e =
    let k = place - 1 in
    let lt : k < length xs = omega arith in
    let whole : place ≡ k + 1 = omega arith in
    next s xs k (get_or xs k d) before now new (subst (λ n. now ≡ F (drop n xs) ++ before) whole h) lt (get_or_default xs k d (get_or xs k d) lt) e
