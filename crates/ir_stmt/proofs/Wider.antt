-- What is built among some declared variables is built among more.
use Rattle.std.proofs.Common.{◌≡◌, ℕ, zero, suc, ◌<◌, ◌≤◌, Bool, true, false, List, [], ◌∷◌, refl, ◌∙◌, ap, arith}
use Rattle.std.specs.Prelude.{◌&&◌, ◌||◌}
use Rattle.std.specs.Str.{bytes_eq}
use Rattle.std.proofs.lemmas.Slice.Eq.{bytes_eq-Decides}
use Rattle.grammar.specs.Tree.{height}
use Rattle.tu_token.specs.Rules.{r-expr, r-sum, r-term, r-prefix, r-primary, many}
use Rattle.tu_token.specs.Syntax.{Of}
use Rattle.tu_expr.specs.Parts.{Part}
use Rattle.tu_expr.specs.Views.{signed, multiplied}
use Rattle.tu_expr.specs.Levels.{OnlySum, OnlyPrimary}
use Rattle.tu_expr.specs.Forms.{NoMore, More, Sum, Term, Added, Subtracted, Multiplied, Divided, Reduced, NumberValue, TrueValue, FalseValue, PathValue, Brackets, TextValue, NilValue, Path}
use Rattle.tu_tree_meaning.specs.Values.{Variable, variable_of}
use Rattle.ir_build.specs.Built.{is_declared, is_built, is_built_sum, are_built_terms, is_built_term, are_built_factors, is_built_prefix, is_built_primary}
use Rattle.ir_build.proofs.Forms.{no_so, both}
use Rattle.ir_stmt.specs.Built.{with_names}

pub both_are : (a b : Bool) → a ≡ true → b ≡ true → (a && b) ≡ true
both_are a b e f = ap (λ z. z && b) e ∙ f

module _ (declared wide : List Variable) (wider : (y : Variable) → is_declared declared y ≡ true → is_declared wide y ≡ true) where
  -- n: above the heights of the expressions in brackets
  module _ (n : ℕ) (inner : (e : Of r-expr) → height e < n → is_built declared e ≡ true → is_built wide e ≡ true) where
    primary_wider : (e : Of r-primary) → height e ≤ n → is_built_primary declared e ≡ true → is_built_primary wide e ≡ true
    primary_wider (NumberValue m digits) h b = b
    primary_wider (PathValue m (Path mp root NoMore)) h b = wider (variable_of root) b
    primary_wider (PathValue m (Path mp root (More z zs))) h b = no_so b
    primary_wider (Brackets m left e right) h b = inner e (omega (arith, h)) b
    primary_wider (TrueValue m word) h b = no_so b
    primary_wider (FalseValue m word) h b = no_so b
    primary_wider (TextValue m text parts) h b = no_so b
    primary_wider (NilValue m word left path right) h b = no_so b

    prefix_wider : (e : Of r-prefix) → height e ≤ n → is_built_prefix declared e ≡ true → is_built_prefix wide e ≡ true
    prefix_wider (OnlyPrimary m a y) h b = primary_wider y (omega (arith, h)) b
    prefix_wider other h b = no_so b

    factors_wider : (more : Part (many multiplied)) → height more ≤ n → are_built_factors declared more ≡ true → are_built_factors wide more ≡ true
    factors_wider NoMore h b = refl
    factors_wider (More (Multiplied sign operand) more) h b =
        let q = both (is_built_prefix declared operand) (are_built_factors declared more) b in
        both_are (is_built_prefix wide operand) (are_built_factors wide more) (prefix_wider operand (omega (arith, h)) q.0) (factors_wider more (omega (arith, h)) q.1)
    factors_wider (More (Divided word operand) more) h b = no_so b
    factors_wider (More (Reduced word operand) more) h b = no_so b

    term_wider : (e : Of r-term) → height e ≤ n → is_built_term declared e ≡ true → is_built_term wide e ≡ true
    term_wider (Term m first more) h b =
        let q = both (is_built_prefix declared first) (are_built_factors declared more) b in
        both_are (is_built_prefix wide first) (are_built_factors wide more) (prefix_wider first (omega (arith, h)) q.0) (factors_wider more (omega (arith, h)) q.1)

    terms_wider : (more : Part (many signed)) → height more ≤ n → are_built_terms declared more ≡ true → are_built_terms wide more ≡ true
    terms_wider NoMore h b = refl
    terms_wider (More (Added sign operand) more) h b =
        let q = both (is_built_term declared operand) (are_built_terms declared more) b in
        both_are (is_built_term wide operand) (are_built_terms wide more) (term_wider operand (omega (arith, h)) q.0) (terms_wider more (omega (arith, h)) q.1)
    terms_wider (More (Subtracted sign operand) more) h b =
        let q = both (is_built_term declared operand) (are_built_terms declared more) b in
        both_are (is_built_term wide operand) (are_built_terms wide more) (term_wider operand (omega (arith, h)) q.0) (terms_wider more (omega (arith, h)) q.1)

    sum_wider : (e : Of r-sum) → height e ≤ n → is_built_sum declared e ≡ true → is_built_sum wide e ≡ true
    sum_wider (Sum m first more) h b =
        let q = both (is_built_term declared first) (are_built_terms declared more) b in
        both_are (is_built_term wide first) (are_built_terms wide more) (term_wider first (omega (arith, h)) q.0) (terms_wider more (omega (arith, h)) q.1)

    level_wider : (e : Of r-expr) → height e ≤ n → is_built declared e ≡ true → is_built wide e ≡ true
    level_wider (OnlySum m a b c d y) h e = sum_wider y (omega (arith, h)) e
    level_wider other h b = no_so b

  below_wider : (n : ℕ) (e : Of r-expr) → height e < n → is_built declared e ≡ true → is_built wide e ≡ true
  below_wider zero e lt = absurd (omega (arith, lt))
  below_wider (suc n) e lt = level_wider n (below_wider n) e (omega (arith, lt))

  pub built_wider : (e : Of r-expr) → is_built declared e ≡ true → is_built wide e ≡ true
  built_wider e b = below_wider (suc (height e)) e (omega arith) b

or_other : (a b : Bool) → b ≡ true → (a || b) ≡ true
or_other true b e = refl
or_other false b e = e

-- the names of a declaration come to those before it
pub names_wider : (variables declared : List Variable) (y : Variable) → is_declared declared y ≡ true → is_declared (with_names declared variables) y ≡ true
names_wider [] declared y e = e
names_wider (v ∷ more) declared y e = names_wider more (v ∷ declared) y (or_other (bytes_eq y v) (is_declared declared y) e)

abbrev pub AreDeclared : List Variable → List Variable → Type 0
AreDeclared declared [] = Unit {0}
AreDeclared declared (y ∷ more) = (is_declared declared y ≡ true) × AreDeclared declared more

-- and are declared behind it
pub names_declared : (variables declared : List Variable) → AreDeclared (with_names declared variables) variables
names_declared [] declared = tt
names_declared (y ∷ more) declared = (names_wider more (y ∷ declared) y (ap (λ z. z || is_declared declared y) ((bytes_eq-Decides y y).1 refl)), names_declared more (y ∷ declared))
