-- Parts in a list: what stands at one, and in those behind it.
use Rattle.std.proofs.Common.{◌≡◌, ℕ, zero, suc, ◌+◌, ◌<◌, ◌≤◌, Bool, true, cond, List, [], ◌∷◌, length, drop, get_or, refl, ap, ◌∙◌, sym, arith, add-one, drop-cons}
use Rattle.std.specs.Prelude.{Option, Some, None}
use Rattle.std.specs.Option.{option_or}
use Rattle.grammar.specs.Description.{rule}
use Rattle.grammar.specs.Tree.{Mark, n-rule, repeated}
use Rattle.tu_token.specs.declared.class.Class.TheVariants.{SignComma}
use Rattle.tu_token.specs.Rules.{r-sum, r-term, r-prefix, r-shown, r-elsif, many}
use Rattle.tu_token.specs.Syntax.{Of}
use Rattle.tu_expr.specs.declared.expr.Sign.{Sign}
use Rattle.tu_expr.specs.declared.expr.Sign.TheVariants.{Plus, Minus}
use Rattle.tu_expr.specs.declared.expr.Multiplication.{Multiplication}
use Rattle.tu_expr.specs.declared.expr.Multiplication.TheVariants.{Times, Div, Mod}
use Rattle.tu_expr.specs.Parts.{Part, chain}
use Rattle.tu_expr.specs.Views.{signed, signed_view, multiplied, multiplied_view, sum_view, term_view}
use Rattle.tu_tree.specs.declared.statement.BlockPart.{BlockPart}
use Rattle.tu_tree.specs.Parts.{sequel}
use Rattle.tu_tree.specs.StatementViews.{block_part, block_part_view, elsifs_view}
use Rattle.tu_check.specs.Built.{are_times, unbuilt_sum, unbuilt_term, unbuilt_terms, unbuilt_prefix, unbuilt_factors, unbuilt_shown, unbuilt_shown_more, unbuilt_elsif, unbuilt_elsifs, unbuilt_part, unbuilt_parts}

abbrev pub terms : List (Sign × Of r-term) → Part (many signed)
terms xs = repeated signed signed_view xs

abbrev pub factors : List (Multiplication × Of r-prefix) → Part (many multiplied)
factors xs = repeated multiplied multiplied_view xs

-- the list from a place on is what stands there, and the list behind it
pub from_place : {A : Type 0} (xs : List A) (i : ℕ) (x : A) → i < length xs → x ≡ get_or xs i x → drop i xs ≡ x ∷ drop (i + 1) xs
from_place xs i x h is = rw (add-one, drop-cons xs i x, ← is) refl

pub nothing_left : {A : Type 0} (xs : List A) (i : ℕ) → length xs ≤ i → drop i xs ≡ []
nothing_left [] zero h = refl
nothing_left [] (suc i) h = refl
nothing_left (x ∷ xs) zero h = absurd (omega arith)
nothing_left (x ∷ xs) (suc i) h = nothing_left xs i (omega arith)

pub both_or : {a b x y : Option ℕ} → a ≡ x → b ≡ y → option_or a b ≡ option_or x y
both_or {a = a} {y = y} e f = ap (option_or a) f ∙ ap (λ o. option_or o y) e

-- the first line that f tells of a list
abbrev pub first_of : {A : Type 0} → (A → Option ℕ) → List A → Option ℕ
first_of f [] = None
first_of f (x ∷ xs) = option_or (f x) (first_of f xs)

first_at : {A : Type 0} (f : A → Option ℕ) (xs : List A) (i : ℕ) (x : A) → i < length xs → x ≡ get_or xs i x → first_of f (drop i xs) ≡ option_or (f x) (first_of f (drop (i + 1) xs))
first_at f xs i x h at = ap (first_of f) (from_place xs i x h at)

-- at one that f tells a line of, and behind one that it tells none of
pub found : {A : Type 0} (f : A → Option ℕ) (xs : List A) (i line : ℕ) (x : A) → first_of f (drop i xs) ≡ first_of f xs → i < length xs → x ≡ get_or xs i x → f x ≡ Some line → first_of f xs ≡ Some line
found f xs i line x before h at is = sym before ∙ (first_at f xs i x h at ∙ ap (λ o. option_or o (first_of f (drop (i + 1) xs))) is)

pub passed : {A : Type 0} (f : A → Option ℕ) (xs : List A) (i : ℕ) (x : A) → first_of f (drop i xs) ≡ first_of f xs → i < length xs → x ≡ get_or xs i x → f x ≡ None → first_of f (drop (i + 1) xs) ≡ first_of f xs
passed f xs i x before h at none = ap (λ o. option_or o (first_of f (drop (i + 1) xs))) (sym none) ∙ (sym (first_at f xs i x h at) ∙ before)

pub none_found : {A : Type 0} (f : A → Option ℕ) (xs : List A) (i : ℕ) → first_of f (drop i xs) ≡ first_of f xs → length xs ≤ i → first_of f xs ≡ None
none_found f xs i before h = sym before ∙ ap (first_of f) (nothing_left xs i h)

module _ (declared : List (List ℕ)) where
  terms_first : (xs : List (Sign × Of r-term)) → unbuilt_terms declared (terms xs) ≡ first_of (λ x. unbuilt_term declared x.1) xs
  terms_first [] = refl
  terms_first ((Plus, x) ∷ xs) = ap (option_or (unbuilt_term declared x)) (terms_first xs)
  terms_first ((Minus, x) ∷ xs) = ap (option_or (unbuilt_term declared x)) (terms_first xs)

  factors_first : (xs : List (Multiplication × Of r-prefix)) → are_times (factors xs) ≡ true → unbuilt_factors declared (factors xs) ≡ first_of (λ x. unbuilt_prefix declared x.1) xs
  factors_first [] h = refl
  factors_first ((Times, x) ∷ xs) h = ap (option_or (unbuilt_prefix declared x)) (factors_first xs h)
  factors_first ((Div, x) ∷ xs) h = absurd (cc)
  factors_first ((Mod, x) ∷ xs) h = absurd (cc)

  pub shown_first : (xs : List (Of r-shown)) → unbuilt_shown_more declared (chain SignComma (rule r-shown) xs) ≡ first_of (unbuilt_shown declared) xs
  shown_first [] = refl
  shown_first (x ∷ xs) = ap (option_or (unbuilt_shown declared x)) (shown_first xs)

  -- a sum, and a product of `*` alone, whose first operand is built
  pub sum_first : (s : Of r-sum) (m : Mark) (first : Of r-term) (more xs : List (Sign × Of r-term)) → n-rule m (sum_view first more) ≡ s → xs ≡ more → unbuilt_term declared first ≡ None
      → unbuilt_sum declared s ≡ first_of (λ x. unbuilt_term declared x.1) xs
  sum_first s m first more xs is same none =
      ap (unbuilt_sum declared) (sym is) ∙ (ap (λ o. option_or o (unbuilt_terms declared (terms more))) none ∙ (ap (λ l. unbuilt_terms declared (terms l)) (sym same) ∙ terms_first xs))

  pub term_first : (s : Of r-term) (m : Mark) (first : Of r-prefix) (more xs : List (Multiplication × Of r-prefix)) → n-rule m (term_view first more) ≡ s → xs ≡ more → are_times (factors xs) ≡ true → unbuilt_prefix declared first ≡ None
      → unbuilt_term declared s ≡ first_of (λ x. unbuilt_prefix declared x.1) xs
  term_first s m first more xs is same all none =
      ap (unbuilt_term declared) (sym is) ∙ (ap (λ b. cond b (option_or (unbuilt_prefix declared first) (unbuilt_factors declared (factors more))) (Some m.line)) (ap (λ l. are_times (factors l)) (sym same) ∙ all)
      ∙ (ap (λ o. option_or o (unbuilt_factors declared (factors more))) none ∙ (ap (λ l. unbuilt_factors declared (factors l)) (sym same) ∙ factors_first xs all)))

  pub elsifs_first : (is_inside : Bool) (xs : List (Of r-elsif)) → unbuilt_elsifs declared is_inside (elsifs_view xs) ≡ first_of (unbuilt_elsif declared is_inside) xs
  elsifs_first is_inside [] = refl
  elsifs_first is_inside (x ∷ xs) = ap (option_or (unbuilt_elsif declared is_inside x)) (elsifs_first is_inside xs)

  pub parts_first : (is_inside : Bool) (xs : List (BlockPart × Bool)) → unbuilt_parts declared is_inside (sequel block_part block_part_view xs) ≡ first_of (λ x. unbuilt_part declared is_inside (block_part_view x.0)) xs
  parts_first is_inside [] = refl
  parts_first is_inside (x ∷ xs) = ap (option_or (unbuilt_part declared is_inside (block_part_view x.0))) (parts_first is_inside xs)
