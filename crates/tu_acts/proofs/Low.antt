-- How low the elements of a row lie.
use Rattle.std.specs.Prelude.{◌≡◌, ℕ, zero, suc, ◌+◌, ◌<◌, ◌≤◌, List, [], ◌∷◌, length}
use Rattle.std.proofs.Common.{subst, sym, get_or, arith}
use Rattle.tu_core.specs.Core.{Scalar, Text}
use Rattle.tu_core_expressions.specs.declared.scalar.Link.{Link}
use Rattle.tu_core_expressions.specs.declared.scalar.Link.TheVariants as link
use Rattle.tu_core_expressions.specs.declared.text.Cut.{Cut}
use Rattle.tu_core_expressions.specs.declared.text.Cut.TheVariants as cut
use Rattle.tu_core_expressions.specs.declared.set.SetLink.{SetLink}
use Rattle.tu_core_expressions.specs.declared.path.Selector.{Selector}
use Rattle.tu_core_expressions.specs.declared.path.Selector.TheVariants as selector
use Rattle.tu_core_expressions.specs.declared.path.Subscript.{Subscript}
use Rattle.tu_core_expressions.specs.declared.call.Actual.{Actual}
use Rattle.tu_core_expressions.specs.declared.call.Actual.TheVariants as actual
use Rattle.tu_core_expressions.specs.ExpressionHeights.{height_of_scalar, height_of_links, height_of_text, height_of_texts, height_of_cuts, height_of_set, height_of_combinations, height_of_scalars, height_of_selectors, height_of_subscripts, height_of_actuals}
use Rattle.tu_core_expressions.specs.ExpressionViews.{links_view, texts_view, cuts_view, combinations_view, scalars_view, subscripts_view, selectors_view, actuals_view}

-- a measure of a list that bounds its first element, and falls, bounds each element
low_at : {A : Type 0} (f : A → ℕ) (g : List A → ℕ) → ((x : A) (xs : List A) → f x ≤ g (x ∷ xs)) → ((x : A) (xs : List A) → g xs ≤ g (x ∷ xs)) → (xs : List A) (i : ℕ) (d : A) → i < length xs → f (get_or xs i d) ≤ g xs
low_at f g one more [] i d lt = absurd (omega arith)
low_at f g one more (x ∷ xs) zero d lt = one x xs
low_at f g one more (x ∷ xs) (suc i) d lt = omega (arith, low_at f g one more xs i d (omega arith), more x xs)

pub low : {A : Type 0} (f : A → ℕ) (g : List A → ℕ) → ((x : A) (xs : List A) → f x ≤ g (x ∷ xs)) → ((x : A) (xs : List A) → g xs ≤ g (x ∷ xs)) → (xs : List A) (i : ℕ) (x : A) → i < length xs → x ≡ get_or xs i x → f x ≤ g xs
low f g one more xs i x lt e = subst (λ y. f y ≤ g xs) (sym e) (low_at f g one more xs i x lt)

pub text_low : (xs : List Text) (i : ℕ) (x : Text) → i < length xs → x ≡ get_or xs i x → height_of_text x + 1 ≤ height_of_texts (texts_view xs)
text_low = low (λ x. height_of_text x + 1) (λ xs. height_of_texts (texts_view xs)) (λ x xs. omega arith) (λ x xs. omega arith)

pub set_low : (xs : List SetLink) (i : ℕ) (x : SetLink) → i < length xs → x ≡ get_or xs i x → height_of_set x.set + 1 ≤ height_of_combinations (combinations_view xs)
set_low = low (λ (x : SetLink). height_of_set x.set + 1) (λ xs. height_of_combinations (combinations_view xs)) (λ x xs. omega arith) (λ x xs. omega arith)

pub scalar_low : (xs : List Scalar) (i : ℕ) (x : Scalar) → i < length xs → x ≡ get_or xs i x → height_of_scalar x + 1 ≤ height_of_scalars (scalars_view xs)
scalar_low = low (λ x. height_of_scalar x + 1) (λ xs. height_of_scalars (scalars_view xs)) (λ x xs. omega arith) (λ x xs. omega arith)

pub subscript_low : (xs : List Subscript) (i : ℕ) (x : Subscript) → i < length xs → x ≡ get_or xs i x → height_of_scalar x.index + 1 ≤ height_of_subscripts (subscripts_view xs)
subscript_low = low (λ (x : Subscript). height_of_scalar x.index + 1) (λ xs. height_of_subscripts (subscripts_view xs)) (λ x xs. omega arith) (λ x xs. omega arith)

links_high : (xs : List Link) → 1 ≤ height_of_links (links_view xs)
links_high [] = omega arith
links_high (link.Operate operator e ∷ xs) = omega arith
links_high (link.Decide operator e ∷ xs) = omega arith

link_one : (x : Link) (xs : List Link) → height_of_links (links_view (x ∷ [])) ≤ height_of_links (links_view (x ∷ xs))
link_one (link.Operate operator e) xs = omega (arith, links_high xs)
link_one (link.Decide operator e) xs = omega (arith, links_high xs)

link_more : (x : Link) (xs : List Link) → height_of_links (links_view xs) ≤ height_of_links (links_view (x ∷ xs))
link_more (link.Operate operator e) xs = omega arith
link_more (link.Decide operator e) xs = omega arith

pub link_low : (xs : List Link) (i : ℕ) (x : Link) → i < length xs → x ≡ get_or xs i x → height_of_links (links_view (x ∷ [])) ≤ height_of_links (links_view xs)
link_low = low (λ x. height_of_links (links_view (x ∷ []))) (λ xs. height_of_links (links_view xs)) link_one link_more

cuts_high : (xs : List Cut) → 1 ≤ height_of_cuts (cuts_view xs)
cuts_high [] = omega arith
cuts_high (cut.CutCharacter i ∷ xs) = omega arith
cuts_high (cut.CutPart i j ∷ xs) = omega arith

cut_one : (x : Cut) (xs : List Cut) → height_of_cuts (cuts_view (x ∷ [])) ≤ height_of_cuts (cuts_view (x ∷ xs))
cut_one (cut.CutCharacter i) xs = omega (arith, cuts_high xs)
cut_one (cut.CutPart i j) xs = omega (arith, cuts_high xs)

cut_more : (x : Cut) (xs : List Cut) → height_of_cuts (cuts_view xs) ≤ height_of_cuts (cuts_view (x ∷ xs))
cut_more (cut.CutCharacter i) xs = omega arith
cut_more (cut.CutPart i j) xs = omega arith

pub cut_low : (xs : List Cut) (i : ℕ) (x : Cut) → i < length xs → x ≡ get_or xs i x → height_of_cuts (cuts_view (x ∷ [])) ≤ height_of_cuts (cuts_view xs)
cut_low = low (λ x. height_of_cuts (cuts_view (x ∷ []))) (λ xs. height_of_cuts (cuts_view xs)) cut_one cut_more

selectors_high : (xs : List Selector) → 1 ≤ height_of_selectors (selectors_view xs)
selectors_high [] = omega arith
selectors_high (selector.Field s k ∷ xs) = omega arith
selectors_high (selector.VariantField s k ∷ xs) = omega arith
selectors_high (selector.Item s es ∷ xs) = omega arith

selector_one : (x : Selector) (xs : List Selector) → height_of_selectors (selectors_view (x ∷ [])) ≤ height_of_selectors (selectors_view (x ∷ xs))
selector_one (selector.Field s k) xs = omega (arith, selectors_high xs)
selector_one (selector.VariantField s k) xs = omega (arith, selectors_high xs)
selector_one (selector.Item s es) xs = omega (arith, selectors_high xs)

selector_more : (x : Selector) (xs : List Selector) → height_of_selectors (selectors_view xs) ≤ height_of_selectors (selectors_view (x ∷ xs))
selector_more (selector.Field s k) xs = omega arith
selector_more (selector.VariantField s k) xs = omega arith
selector_more (selector.Item s es) xs = omega arith

pub selector_low : (xs : List Selector) (i : ℕ) (x : Selector) → i < length xs → x ≡ get_or xs i x → height_of_selectors (selectors_view (x ∷ [])) ≤ height_of_selectors (selectors_view xs)
selector_low = low (λ x. height_of_selectors (selectors_view (x ∷ []))) (λ xs. height_of_selectors (selectors_view xs)) selector_one selector_more

actuals_high : (xs : List Actual) → 1 ≤ height_of_actuals (actuals_view xs)
actuals_high [] = omega arith
actuals_high (actual.Given at size e ∷ xs) = omega arith
actuals_high (actual.Lent at is_var bounds p ∷ xs) = omega arith

actual_one : (x : Actual) (xs : List Actual) → height_of_actuals (actuals_view (x ∷ [])) ≤ height_of_actuals (actuals_view (x ∷ xs))
actual_one (actual.Given at size e) xs = omega (arith, actuals_high xs)
actual_one (actual.Lent at is_var bounds p) xs = omega (arith, actuals_high xs)

actual_more : (x : Actual) (xs : List Actual) → height_of_actuals (actuals_view xs) ≤ height_of_actuals (actuals_view (x ∷ xs))
actual_more (actual.Given at size e) xs = omega arith
actual_more (actual.Lent at is_var bounds p) xs = omega arith

pub actual_low : (xs : List Actual) (i : ℕ) (x : Actual) → i < length xs → x ≡ get_or xs i x → height_of_actuals (actuals_view (x ∷ [])) ≤ height_of_actuals (actuals_view xs)
actual_low = low (λ x. height_of_actuals (actuals_view (x ∷ []))) (λ xs. height_of_actuals (actuals_view xs)) actual_one actual_more
