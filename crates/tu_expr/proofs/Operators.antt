-- Levels with operators: no comparison is found below them, no sum and no primary.
use Rattle.std.proofs.Common.{◌≡◌, ℕ, List, [], ◌∷◌, refl}
use Rattle.std.specs.Prelude.{Result, Ok, Err}
use Rattle.grammar.specs.Tree.{Mark, n-rule}
use Rattle.tu_token.specs.Rules.{r-expr, r-or, r-and, r-not, r-compare, r-relation, r-sum, r-power, r-primary}
use Rattle.tu_token.specs.Syntax.{Of}
use Rattle.tu_expr.specs.declared.expr.Sign.{Sign}
use Rattle.tu_expr.specs.Forms.{NoMore, Expr, Or, And, Not, Compare, Prefix}
use Rattle.tu_expr.specs.Views.{expr_view, or_view, and_view, compare_view, prefix_view, power_view}
use Rattle.tu_expr.specs.Levels.{OnlyCompare, OnlySum, compare_of, sum_of, primary_of}

-- operands of `=>`, of `or` and of `and`
pub expr_more : (m : Mark) (first : Of r-or) (more : List (Of r-or)) → (more ≡ [] → ⊥) → compare_of (n-rule m (expr_view first more)) ≡ Err m.line
expr_more m first [] some = absurd (some refl)
expr_more m (Or a (And b (Not c NoMore x) NoMore) NoMore) (y ∷ more) some = refl
expr_more m other (y ∷ more) some = refl

pub or_more : (m a : Mark) (first : Of r-and) (more : List (Of r-and)) → (more ≡ [] → ⊥) → compare_of (Expr m (n-rule a (or_view first more)) NoMore) ≡ Err a.line
or_more m a first [] some = absurd (some refl)
or_more m a (And b (Not c NoMore x) NoMore) (y ∷ more) some = refl
or_more m a other (y ∷ more) some = refl

pub and_more : (m a b : Mark) (first : Of r-not) (more : List (Of r-not)) → (more ≡ [] → ⊥) → compare_of (Expr m (Or a (n-rule b (and_view first more)) NoMore) NoMore) ≡ Err b.line
and_more m a b first [] some = absurd (some refl)
and_more m a b (Not c NoMore x) (y ∷ more) some = refl
and_more m a b other (y ∷ more) some = refl

-- the sum that a comparison is
abbrev pub sum_in : Of r-compare → Result (Of r-sum) ℕ
sum_in (Compare _ x NoMore) = Ok x
sum_in (n-rule m other) = Err m.line

-- or that an expression is, by its comparison
abbrev pub sum_by : Result (Of r-compare) ℕ → Result (Of r-sum) ℕ
sum_by (Ok x) = sum_in x
sum_by (Err line) = Err line

pub by_compare : (e : Of r-expr) → sum_of e ≡ sum_by (compare_of e)
by_compare (OnlySum m a b c d x) = refl
by_compare (OnlyCompare m a b c x) = refl
by_compare other = refl

-- relations behind the first sum
pub compare_more : (m : Mark) (first : Of r-sum) (more : List (Of r-relation × Of r-sum)) → (more ≡ [] → ⊥) → sum_in (n-rule m (compare_view first more)) ≡ Err m.line
compare_more m first [] some = absurd (some refl)
compare_more m first (y ∷ more) some = refl

-- signs before a factor, and powers behind it
pub prefix_more : (m : Mark) (before : List Sign) (power : Of r-power) → (before ≡ [] → ⊥) → primary_of (n-rule m (prefix_view before power)) ≡ Err m.line
prefix_more m [] power some = absurd (some refl)
prefix_more m (y ∷ before) power some = refl

pub power_more : (m a : Mark) (first : Of r-primary) (more : List (Of r-primary)) → (more ≡ [] → ⊥) → primary_of (Prefix m NoMore (n-rule a (power_view first more))) ≡ Err a.line
power_more m a first [] some = absurd (some refl)
power_more m a first (y ∷ more) some = refl
