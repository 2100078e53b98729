-- Operands in a list, one after the other: the code so far, and that of those still to come.
use Rattle.std.proofs.Common.{◌≡◌, ℕ, zero, suc, ◌+◌, ◌<◌, ◌≤◌, List, [], ◌∷◌, length, drop, get_or, refl, ap, ◌∙◌, sym, arith, add-one, drop-cons}
use Rattle.grammar.specs.Description.{Description}
use Rattle.grammar.specs.Tree.{Mark, Node, height, n-rule, repeated}
use Rattle.ir_code.specs.declared.code.Code.{Code}
use Rattle.tu_token.specs.Rules.{r-expr, r-term, r-prefix, r-primary, r-path, many}
use Rattle.tu_token.specs.Syntax.{Of}
use Rattle.tu_expr.specs.declared.expr.Sign.{Sign}
use Rattle.tu_expr.specs.declared.expr.Sign.TheVariants.{Plus, Minus}
use Rattle.tu_expr.specs.declared.expr.Multiplication.{Multiplication}
use Rattle.tu_expr.specs.declared.expr.Multiplication.TheVariants.{Times, Div, Mod}
use Rattle.tu_expr.specs.declared.expr.PrimaryForm.{PrimaryForm}
use Rattle.tu_expr.specs.declared.expr.PrimaryForm.TheVariants as primary
use Rattle.tu_expr.specs.declared.leaf.Leaf.{Leaf}
use Rattle.tu_expr.specs.declared.path.Step.{Step}
use Rattle.tu_expr.specs.Parts.{Part}
use Rattle.tu_expr.specs.Views.{signed, signed_view, multiplied, multiplied_view, primary_view, path_view}
use Rattle.tu_value.specs.declared.pieces.Fixed.{Fixed}
use Rattle.ir_build.specs.Code.{Made, no_code, times, signed_term, code_expr, code_path, code_terms, code_factors, code_prefix, code_primary}
use Rattle.ir_build.specs.Keeps.{Named}
use Rattle.ir_build.specs.Tokens.{tokens_in}

abbrev pub terms : List (Sign × Of r-term) → Part (many signed)
terms xs = repeated signed signed_view xs

abbrev pub factors : List (Multiplication × Of r-prefix) → Part (many multiplied)
factors xs = repeated multiplied multiplied_view xs

-- the list from a place on is what stands there, and the list behind it
pub from_place : {A : Type 0} (xs : List A) (i : ℕ) (x : A) → i < length xs → x ≡ get_or xs i x → drop i xs ≡ x ∷ drop (i + 1) xs
from_place xs i x h is = rw (add-one, drop-cons xs i x, ← is) refl

pub nothing_left : {A : Type 0} (xs : List A) (i : ℕ) → length xs ≤ i → drop i xs ≡ []
nothing_left [] zero h = refl
nothing_left [] (suc i) h = refl
nothing_left (x ∷ xs) zero h = absurd (omega arith)
nothing_left (x ∷ xs) (suc i) h = nothing_left xs i (omega arith)

-- what stands in a list lies no higher than the list
pub lies_in : {Rule A : Type 0} {body : Rule → Description Rule} (d : Description Rule) (show : A → Node body d) (xs : List A) (i : ℕ) (x : A) → i < length xs → x ≡ get_or xs i x → height (show x) ≤ height (repeated d show xs)
lies_in d show [] i x h is = absurd (omega arith)
lies_in d show (y ∷ ys) zero x h is = omega (arith, ap (λ z. height (show z)) is)
lies_in d show (y ∷ ys) (suc i) x h is = let below = lies_in d show ys i x (omega arith) is in omega (arith, below)

tokens_more : (x : Sign × Of r-term) (xs : List (Sign × Of r-term)) → tokens_in (terms (x ∷ xs)) ≡ (tokens_in x.1 + 1) + tokens_in (terms xs)
tokens_more (Plus, x) xs = omega arith
tokens_more (Minus, x) xs = omega arith

pub tokens_at : (xs : List (Sign × Of r-term)) (i : ℕ) (x : Sign × Of r-term) → i < length xs → x ≡ get_or xs i x → tokens_in (terms (drop i xs)) ≡ (tokens_in x.1 + 1) + tokens_in (terms (drop (i + 1) xs))
tokens_at xs i x h is = ap (λ s. tokens_in (terms s)) (from_place xs i x h is) ∙ tokens_more x (drop (i + 1) xs)

factor_tokens_more : (x : Multiplication × Of r-prefix) (xs : List (Multiplication × Of r-prefix)) → tokens_in (factors (x ∷ xs)) ≡ (tokens_in x.1 + 1) + tokens_in (factors xs)
factor_tokens_more (Times, x) xs = omega arith
factor_tokens_more (Div, x) xs = omega arith
factor_tokens_more (Mod, x) xs = omega arith

pub factor_tokens_at : (xs : List (Multiplication × Of r-prefix)) (i : ℕ) (x : Multiplication × Of r-prefix) → i < length xs → x ≡ get_or xs i x
    → tokens_in (factors (drop i xs)) ≡ (tokens_in x.1 + 1) + tokens_in (factors (drop (i + 1) xs))
factor_tokens_at xs i x h is = ap (λ s. tokens_in (factors s)) (from_place xs i x h is) ∙ factor_tokens_more x (drop (i + 1) xs)

module _ (k : Fixed) (names : List Named) (line : ℕ) where
  term_more : (v : Made) (x : Sign × Of r-term) (xs : List (Sign × Of r-term)) → code_terms k names line v (terms (x ∷ xs)) ≡ code_terms k names line (signed_term k names line x.0 v x.1) (terms xs)
  term_more v (Plus, x) xs = refl
  term_more v (Minus, x) xs = refl

  -- the next term of a sum
  pub terms_at : (v : Made) (xs : List (Sign × Of r-term)) (i : ℕ) (x : Sign × Of r-term) → i < length xs → x ≡ get_or xs i x
      → code_terms k names line v (terms (drop i xs)) ≡ code_terms k names line (signed_term k names line x.0 v x.1) (terms (drop (i + 1) xs))
  terms_at v xs i x h is = ap (λ s. code_terms k names line v (terms s)) (from_place xs i x h is) ∙ term_more v x (drop (i + 1) xs)

  -- the next factor of a product
  pub factors_at : (v : Made) (xs : List (Multiplication × Of r-prefix)) (i : ℕ) (x : Multiplication × Of r-prefix) → i < length xs → x ≡ get_or xs i x → x.0 ≡ Times
      → code_factors k names line v (factors (drop i xs)) ≡ code_factors k names line (times k names line v (code_prefix k names line x.1 v.code)) (factors (drop (i + 1) xs))
  factors_at v xs i x h is same =
      ap (λ s. code_factors k names line v (factors s)) (from_place xs i x h is) ∙ ap (λ o. code_factors k names line v (factors ((o, x.1) ∷ drop (i + 1) xs))) same

  -- what stands between operators
  pub path_code : (e : Of r-primary) (code : Code) (m : Mark) (form : PrimaryForm) (path : Of r-path) → n-rule m (primary_view form) ≡ e → form ≡ primary.Path path → code_primary k names line e code ≡ code_path k names line path code
  path_code e code m form path is form_is = ap (λ z. code_primary k names line z code) (sym is) ∙ ap (λ f. code_primary k names line (n-rule m (primary_view f)) code) form_is

  pub brackets_code : (e : Of r-primary) (code : Code) (m : Mark) (form : PrimaryForm) (inner : Of r-expr) → n-rule m (primary_view form) ≡ e → form ≡ primary.Brackets inner → code_primary k names line e code ≡ code_expr k names line inner code
  brackets_code e code m form inner is form_is = ap (λ z. code_primary k names line z code) (sym is) ∙ ap (λ f. code_primary k names line (n-rule m (primary_view f)) code) form_is

-- steps behind a name
pub steps_more : (k : Fixed) (names : List Named) (line : ℕ) (code : Code) (p : Of r-path) (m : Mark) (root : Leaf) (more : List Step) → n-rule m (path_view root more) ≡ p → (more ≡ [] → ⊥) → no_code code ≡ code_path k names line p code
steps_more k names line code p m root [] is some = absurd (some refl)
steps_more k names line code p m root (x ∷ more) is some = ap (λ z. code_path k names line z code) is
