-- The region code of an expression.
use Rattle.std.specs.Prelude.{ℕ, false, ◌+◌, min, List, [], ◌∷◌, Option, Some, None, if◌then◌else◌}
use Rattle.std.specs.Str.{bytes_eq}
use Rattle.ir_form.specs.declared.op.Op.{Op}
use Rattle.ir_code.specs.Pieces.{choice}
use Rattle.rv_isa.specs.declared.instr.Relation.TheVariants as machine
use Rattle.ir_code.specs.declared.code.Code.{Code}
use Rattle.tu_token.specs.LexFaults.{value_after}
use Rattle.tu_token.specs.Rules.{r-expr, r-compare, r-sum, r-term, r-prefix, r-primary, r-path, many}
use Rattle.tu_token.specs.Syntax.{Of}
use Rattle.tu_expr.specs.declared.expr.Sign.{Sign}
use Rattle.tu_expr.specs.declared.expr.Sign.TheVariants as sign
use Rattle.tu_expr.specs.Parts.{Part, text_of}
use Rattle.tu_expr.specs.Views.{signed, multiplied}
use Rattle.tu_expr.specs.Forms.{NoMore, More, Compare, Related, Sum, Term, Added, Subtracted, Multiplied, NumberValue, PathValue, Brackets, Path}
use Rattle.tu_expr.specs.Levels.{OnlyCompare, OnlySum, OnlyPrimary}
use Rattle.tu_tree_meaning.specs.Values.{Variable, variable_of}
use Rattle.tu_value.specs.Pieces.{with_piece, literal_code, fetch_code, sum_code, difference_code, product_code, more_code, less_code}
use Rattle.tu_value.specs.Comparisons.{Comparison}
use Rattle.ir_build.specs.Relations.{comparison_of}
use Rattle.tu_value.specs.declared.pieces.Fixed.{Fixed}
use Rattle.ir_build.specs.Keeps.{Named}

-- code that was made, and the number of its value
pub record Made : Type 0 where
  pub code : Code
  pub value : ℕ

-- code with a number for its value
abbrev pub made : Code → (value : ℕ) → Made
made code value = record { code = code; value = value }

-- so many values more, of which the value is one
abbrev pub with_values : Code → (ℕ → List Op) → (count value : ℕ) → Made
with_values code ops count value = record { code = with_piece code (ops code.next) count; value = code.next + value }

-- one value more
abbrev pub with_value : Code → (ℕ → List Op) → Made
with_value code ops = record { code = with_piece code (ops code.next) 1; value = code.next }

-- what has no code
abbrev pub no_code : Code → Made
no_code code = record { code = code; value = 0 }

-- the number of a literal, which is an int
abbrev pub number_of : List ℕ → ℕ
number_of digits = min (value_after 0 digits) 2147483647

-- a term that is nothing but a number
abbrev pub literal_of : Of r-term → Option ℕ
literal_of (Term m (OnlyPrimary _ _ (NumberValue _ digits)) NoMore) = Some (number_of (text_of digits))
literal_of other = None

-- a variable by its name
abbrev pub named : Variable → List Named → Option Named
named x [] = None
named x (n ∷ names) = if bytes_eq x n.name then Some n else named x names

module _ (k : Fixed) (names : List Named) (line : ℕ) where
  abbrev pub fetched : Code → Option Named → Made
  fetched code None = no_code code
  fetched code (Some n) = with_value code (fetch_code k line n.at)

  -- a value with an operand added or subtracted, which may be a number, or was made behind it
  abbrev pub plus : Made → Option ℕ → Made → Made
  plus x (Some number) y = with_values x.code (more_code line x.value number) 2 1
  plus x None y = with_values y.code (sum_code k line x.value y.value) 4 1

  abbrev pub minus : Made → Option ℕ → Made → Made
  minus x (Some number) y = with_values x.code (less_code line x.value number) 2 1
  minus x None y = with_values y.code (difference_code k line x.value y.value) 4 1

  abbrev pub times : Made → Made → Made
  times x y = with_values y.code (product_code k line x.value y.value) 7 6

  abbrev mutual
    pub code_expr : Of r-expr → Code → Made
    code_expr (OnlySum _ _ _ _ _ x) code = code_sum x code
    code_expr other code = no_code code

    pub code_sum : Of r-sum → Code → Made
    code_sum (Sum m first more) code = code_terms (code_term first code) more

    -- the terms behind a value, from the left
    pub code_terms : Made → Part (many signed) → Made
    code_terms x NoMore = x
    code_terms x (More (Added _ operand) more) = code_terms (plus x (literal_of operand) (code_term operand x.code)) more
    code_terms x (More (Subtracted _ operand) more) = code_terms (minus x (literal_of operand) (code_term operand x.code)) more

    pub code_term : Of r-term → Code → Made
    code_term (Term m first more) code = code_factors (code_prefix first code) more

    pub code_factors : Made → Part (many multiplied) → Made
    code_factors x NoMore = x
    code_factors x (More (Multiplied _ operand) more) = code_factors (times x (code_prefix operand x.code)) more
    code_factors x other = x

    pub code_prefix : Of r-prefix → Code → Made
    code_prefix (OnlyPrimary _ _ x) code = code_primary x code
    code_prefix other code = no_code code

    pub code_primary : Of r-primary → Code → Made
    code_primary (NumberValue m digits) code = with_value code (literal_code (number_of (text_of digits)))
    code_primary (PathValue m path) code = code_path path code
    code_primary (Brackets m _ x _) code = code_expr x code
    code_primary other code = no_code code

    pub code_path : Of r-path → Code → Made
    code_path (Path m root NoMore) code = fetched code (named (variable_of root) names)
    code_path other code = no_code code

  -- a value with a term added or subtracted
  abbrev pub signed_term : Sign → Made → Of r-term → Made
  signed_term sign.Plus x term = plus x (literal_of term) (code_term term x.code)
  signed_term sign.Minus x term = minus x (literal_of term) (code_term term x.code)

-- code that works out two values, and how they are compared
pub record Tested : Type 0 where
  pub code : Code
  pub comparison : Comparison
  pub left : ℕ
  pub right : ℕ

-- what has no code
abbrev pub no_test : Code → Tested
no_test code = record { code = code; comparison = record { relation = machine.Equal; swapped = false }; left = 0; right = 0 }

abbrev pub tested : Option Comparison → Made → Made → Tested
tested None x y = no_test y.code
tested (Some c) x y = record { code = y.code; comparison = c; left = x.value; right = y.value }

-- the first operations where the test holds, and else the others
abbrev pub where_tested : Tested → (first others : List Op) → Op
where_tested t first others =
    if t.comparison.swapped then choice t.comparison.relation t.right t.left first others else choice t.comparison.relation t.left t.right first others

module _ (k : Fixed) (names : List Named) (line : ℕ) where
  abbrev pub test_compare : Of r-compare → Code → Tested
  test_compare (Compare m first (More (Related relation operand) NoMore)) code = let x = code_sum k names line first code in tested (comparison_of relation) x (code_sum k names line operand x.code)
  test_compare other code = no_test code

  -- a condition, which is one comparison
  abbrev pub test_expr : Of r-expr → Code → Tested
  test_expr (OnlyCompare _ _ _ _ x) code = test_compare x code
  test_expr other code = no_test code
