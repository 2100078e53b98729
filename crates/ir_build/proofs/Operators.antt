-- An expression, a condition and a factor by what they are where no operators stand round it.
use Rattle.std.proofs.Common.{◌≡◌, ℕ, ◌≤◌, Bool, false, IsTrue, List, [], ◌∷◌, refl, ap, arith}
use Rattle.std.specs.Prelude.{Option, Some, None, Result, Ok, Err}
use Rattle.grammar.specs.Tree.{Mark, n-rule}
use Rattle.ir_code.specs.declared.code.Code.{Code}
use Rattle.tu_token.specs.Rules.{Rule, r-expr, r-compare, r-sum, r-prefix, r-primary}
use Rattle.tu_token.specs.Syntax.{Of}
use Rattle.tu_expr.specs.declared.expr.Multiplication.{Multiplication}
use Rattle.tu_expr.specs.Forms.{NoMore, NumberValue, Term}
use Rattle.tu_expr.specs.Levels.{OnlyCompare, OnlySum, OnlyPrimary, compare_of, sum_of, primary_of}
use Rattle.tu_expr.specs.Parts.{text_of}
use Rattle.tu_expr.specs.Views.{term_view}
use Rattle.tu_value.specs.declared.pieces.Fixed.{Fixed}
use Rattle.ir_build.specs.Code.{Made, Tested, no_code, no_test, number_of, literal_of, code_expr, code_sum, code_prefix, code_primary, test_expr, test_compare}
use Rattle.ir_build.specs.Keeps.{Named}
use Rattle.ir_build.specs.Tokens.{tokens_in}

-- a test that is false tells that what it tests is not
pub fails : {A : Type 0} {b : Bool} → (A → IsTrue b) → b ≡ false → A → ⊥
fails h e a = let t = h a in absurd (cc)

-- the tokens of a part, of which the whole has no fewer
abbrev pub tokens_by : {n : Rule} → Result (Of n) ℕ → ℕ
tokens_by (Ok x) = tokens_in x
tokens_by (Err line) = 0

pub sum_tokens : (e : Of r-expr) (x : Of r-sum) → sum_of e ≡ Ok x → tokens_in x ≤ tokens_in e
sum_tokens (OnlySum m a b c d y) x is = omega (arith, ap tokens_by is)
sum_tokens other x is = absurd (cc)

pub compare_tokens : (e : Of r-expr) (x : Of r-compare) → compare_of e ≡ Ok x → tokens_in x ≤ tokens_in e
compare_tokens (OnlyCompare m a b c y) x is = omega (arith, ap tokens_by is)
compare_tokens other x is = absurd (cc)

pub primary_tokens : (e : Of r-prefix) (x : Of r-primary) → primary_of e ≡ Ok x → tokens_in x ≤ tokens_in e
primary_tokens (OnlyPrimary m a y) x is = omega (arith, ap tokens_by is)
primary_tokens other x is = absurd (cc)

-- the code of a part, or none where there is no such part
abbrev pub code_by : {n : Rule} → (Of n → Code → Made) → Result (Of n) ℕ → Code → Made
code_by make (Ok x) code = make x code
code_by make (Err line) code = no_code code

abbrev pub tested_by : (Of r-compare → Code → Tested) → Result (Of r-compare) ℕ → Code → Tested
tested_by make (Ok x) code = make x code
tested_by make (Err line) code = no_test code

module _ (k : Fixed) (names : List Named) (line : ℕ) where
  -- the code of an expression by its sum, a condition by its comparison, and a factor by what it is
  pub value_by : (e : Of r-expr) (code : Code) → code_expr k names line e code ≡ code_by (code_sum k names line) (sum_of e) code
  value_by (OnlySum m a b c d x) code = refl
  value_by other code = refl

  pub test_by : (e : Of r-expr) (code : Code) → test_expr k names line e code ≡ tested_by (test_compare k names line) (compare_of e) code
  test_by (OnlyCompare m a b c x) code = refl
  test_by other code = refl

  pub factor_by : (e : Of r-prefix) (code : Code) → code_prefix k names line e code ≡ code_by (code_primary k names line) (primary_of e) code
  factor_by (OnlyPrimary m a x) code = refl
  factor_by other code = refl

-- the number that a term is whose only factor is a number
abbrev pub number_in : Result (Of r-primary) ℕ → Option ℕ
number_in (Ok (NumberValue m digits)) = Some (number_of (text_of digits))
number_in other = None

pub literal_by : (m : Mark) (e : Of r-prefix) → literal_of (Term m e NoMore) ≡ number_in (primary_of e)
literal_by m (OnlyPrimary a b (NumberValue c digits)) = refl
literal_by m (OnlyPrimary a b x) = refl
literal_by m other = refl

-- a term of several factors is no number
pub term_more : (m : Mark) (first : Of r-prefix) (more : List (Multiplication × Of r-prefix)) → (more ≡ [] → ⊥) → literal_of (n-rule m (term_view first more)) ≡ None
term_more m first [] some = absurd (some refl)
term_more m (OnlyPrimary a b (NumberValue n digits)) (x ∷ more) some = refl
term_more m other (x ∷ more) some = refl
