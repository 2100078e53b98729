-- The walk along two places, step by step.
use Rattle.std.proofs.Common.{◌≡◌, ℕ, suc, ◌+◌, ◌<◌, ◌≤◌, ◌==◌, Bool, true, false, List, [], ◌∷◌, ◌++◌, length, get_or, drop, refl, sym, ◌∙◌, ap, subst, arith, ◌⊎◌, inl, inr, ⊎_elim, if◌then◌else◌}
use Rattle.std.specs.Prelude.{min}
use Rattle.std.proofs.lemmas.Bool.{cases_lt}
use Rattle.std.proofs.lemmas.List.{drop_more, at_drop_all}
use Rattle.tu_core.specs.Walk.{Verdict, Apart, Noted, AtStep, Brackets, Differ, Agree, Unknown, behind_brackets, brackets, ended, walk_steps}
use Rattle.tu_core.specs.Core.{End}
use Rattle.tu_core_expressions.specs.declared.path.Selector.{Selector}
use Rattle.tu_core_expressions.specs.declared.path.Selector.TheVariants.{Field, VariantField, Item}
use Rattle.tu_core_expressions.specs.declared.path.Subscript.{Subscript}
use Rattle.tu_core_expressions.specs.ExpressionViews.{selectors_view, subscripts_view}
use Rattle.tu_overlap.specs.Verdicts.{step_brackets}

pub min_end : (a b k : ℕ) → k ≡ min a b → (a ≤ k) ⊎ (b ≤ k)
min_end a b k e = ⊎_elim (λ (lt : a < b). inl (omega (arith, e))) (λ (ge : b ≤ a). inr (omega (arith, e))) (cases_lt a b)

pub min_past : (a b m k : ℕ) → m ≡ min a b → m ≤ k → (a ≤ k) ⊎ (b ≤ k)
min_past a b m k e le = ⊎_elim (λ (lt : a < b). inl (omega (arith, e))) (λ (ge : b ≤ a). inr (omega (arith, e))) (cases_lt a b)

none_right : (xs : List Subscript) → brackets (subscripts_view xs) (subscripts_view []) ≡ Agree
none_right [] = refl
none_right (x ∷ xs) = refl

-- where one of two brackets has ended
pub brackets_end : (xs ys : List Subscript) (k : ℕ) → (length xs ≤ k) ⊎ (length ys ≤ k) → brackets (subscripts_view (drop k xs)) (subscripts_view (drop k ys)) ≡ Agree
brackets_end xs ys k (inl le) = at_drop_all (λ zs. brackets (subscripts_view zs) (subscripts_view (drop k ys))) xs k le
brackets_end xs ys k (inr le) = at_drop_all (λ zs. brackets (subscripts_view (drop k xs)) (subscripts_view zs)) ys k le ∙ none_right (drop k xs)

chosen : (b : Bool) (p : ℕ) (n : List Noted) (go_on : List Noted → Verdict) → (if b then go_on n else Apart) ≡ behind_brackets (if b then Agree else Differ) p n go_on
chosen true p n go_on = refl
chosen false p n go_on = refl

one_step : (p : ℕ) (n : List Noted) (x y : Selector) (xs ys : List Selector) →
    walk_steps p n (selectors_view (x ∷ xs)) (selectors_view (y ∷ ys)) ≡ behind_brackets (step_brackets x y) p n (λ noted. walk_steps (suc p) noted (selectors_view xs) (selectors_view ys))
one_step p n (Field s k) (Field t j) xs ys = chosen (k == j) p n (λ noted. walk_steps (suc p) noted (selectors_view xs) (selectors_view ys))
one_step p n (Field s k) (VariantField t j) xs ys = refl
one_step p n (Field s k) (Item t es) xs ys = refl
one_step p n (VariantField s k) (Field t j) xs ys = refl
one_step p n (VariantField s k) (VariantField t j) xs ys = chosen (k == j) p n (λ noted. walk_steps (suc p) noted (selectors_view xs) (selectors_view ys))
one_step p n (VariantField s k) (Item t es) xs ys = refl
one_step p n (Item s ds) (Field t j) xs ys = refl
one_step p n (Item s ds) (VariantField t j) xs ys = refl
one_step p n (Item s ds) (Item t es) xs ys = refl

no_step : (p : ℕ) (n : List Noted) (xs : List Selector) → walk_steps p n (selectors_view xs) End ≡ ended n
no_step p n [] = refl
no_step p n (Field s k ∷ xs) = refl
no_step p n (VariantField s k ∷ xs) = refl
no_step p n (Item s es ∷ xs) = refl

-- where one of two ways has ended
pub steps_end : (p : ℕ) (n : List Noted) (xs ys : List Selector) (k : ℕ) → (length xs ≤ k) ⊎ (length ys ≤ k) → walk_steps p n (selectors_view (drop k xs)) (selectors_view (drop k ys)) ≡ ended n
steps_end p n xs ys k (inl le) = at_drop_all (λ zs. walk_steps p n (selectors_view zs) (selectors_view (drop k ys))) xs k le
steps_end p n xs ys k (inr le) = at_drop_all (λ zs. walk_steps p n (selectors_view (drop k xs)) (selectors_view zs)) ys k le ∙ no_step p n (drop k xs)

steps_more : (p : ℕ) (n : List Noted) (xs ys : List Selector) (k : ℕ) (x y : Selector) → k < length xs → k < length ys → x ≡ get_or xs k x → y ≡ get_or ys k y →
    walk_steps p n (selectors_view (drop k xs)) (selectors_view (drop k ys)) ≡ behind_brackets (step_brackets x y) p n (λ noted. walk_steps (suc p) noted (selectors_view (drop (k + 1) xs)) (selectors_view (drop (k + 1) ys)))
steps_more p n xs ys k x y lx ly ix iy =
    ap (λ zs. walk_steps p n (selectors_view zs) (selectors_view (drop k ys))) (drop_more xs k x lx ∙ ap (λ z. z ∷ drop (k + 1) xs) (sym ix))
    ∙ ap (λ zs. walk_steps p n (selectors_view (x ∷ drop (k + 1) xs)) (selectors_view zs)) (drop_more ys k y ly ∙ ap (λ z. z ∷ drop (k + 1) ys) (sym iy))
    ∙ one_step p n x y (drop (k + 1) xs) (drop (k + 1) ys)

-- what a walk from a position on finds, where its first k steps were gone
abbrev pub Gone : (p k : ℕ) → List Noted → (xs ys : List Selector) → Verdict → Type 0
Gone p k n xs ys verdict = walk_steps (p + k) n (selectors_view (drop k xs)) (selectors_view (drop k ys)) ≡ verdict

module _ (p k : ℕ) (n : List Noted) (xs ys : List Selector) (verdict : Verdict) (x y : Selector) (lx : k < length xs) (ly : k < length ys) (ix : x ≡ get_or xs k x) (iy : y ≡ get_or ys k y) (gone : Gone p k n xs ys verdict) where
  step_at : (b : Brackets) → step_brackets x y ≡ b → behind_brackets b (p + k) n (λ noted. walk_steps (suc (p + k)) noted (selectors_view (drop (k + 1) xs)) (selectors_view (drop (k + 1) ys))) ≡ verdict
  step_at b e =
      ap (λ c. behind_brackets c (p + k) n (λ noted. walk_steps (suc (p + k)) noted (selectors_view (drop (k + 1) xs)) (selectors_view (drop (k + 1) ys)))) (sym e)
      ∙ sym (steps_more (p + k) n xs ys k x y lx ly ix iy) ∙ gone

  later : suc (p + k) ≡ p + (k + 1)
  later = omega arith

  pub steps_differ : step_brackets x y ≡ Differ → Apart ≡ verdict
  steps_differ e = step_at Differ e

  pub steps_agree : step_brackets x y ≡ Agree → Gone p (k + 1) n xs ys verdict
  steps_agree e = subst (λ q. walk_steps q n (selectors_view (drop (k + 1) xs)) (selectors_view (drop (k + 1) ys)) ≡ verdict) later (step_at Agree e)

  pub steps_unknown : step_brackets x y ≡ Unknown → Gone p (k + 1) (n ++ AtStep (p + k) ∷ []) xs ys verdict
  steps_unknown e = subst (λ q. walk_steps q (n ++ AtStep (p + k) ∷ []) (selectors_view (drop (k + 1) xs)) (selectors_view (drop (k + 1) ys)) ≡ verdict) later (step_at Unknown e)
