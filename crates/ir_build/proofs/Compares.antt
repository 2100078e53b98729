-- Comparisons that are not of two sums.
use Rattle.std.proofs.Common.{◌≡◌, ℕ, List, [], ◌∷◌, length, ap, arith}
use Rattle.grammar.specs.Tree.{Mark, n-rule}
use Rattle.ir_code.specs.declared.code.Code.{Code}
use Rattle.tu_token.specs.Rules.{r-compare, r-relation, r-sum}
use Rattle.tu_token.specs.Syntax.{Of}
use Rattle.tu_expr.specs.Views.{compare_view}
use Rattle.tu_value.specs.declared.pieces.Fixed.{Fixed}
use Rattle.ir_build.specs.Code.{no_test, test_compare}
use Rattle.ir_build.specs.Keeps.{Named}

pub not_one : (k : Fixed) (names : List Named) (line : ℕ) (code : Code) (c : Of r-compare) (m : Mark) (first : Of r-sum) (more : List (Of r-relation × Of r-sum)) → n-rule m (compare_view first more) ≡ c → (length more ≡ 1 → ⊥)
    → no_test code ≡ test_compare k names line c code
not_one k names line code c m first [] is other = ap (λ z. test_compare k names line z code) is
not_one k names line code c m first (x ∷ []) is other = absurd (other (omega arith))
not_one k names line code c m first (x ∷ y ∷ more) is other = ap (λ z. test_compare k names line z code) is
