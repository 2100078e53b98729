-- Forms of expressions that are built: numbers, declared variables, brackets, and `+`, `-` and `*` between two operands.
use Rattle.std.specs.Prelude.{nat_le, is_some, Bool, true, false, ◌&&◌, List}
use Rattle.std.specs.List.{list_any}
use Rattle.std.specs.Str.{bytes_eq}
use Rattle.grammar.specs.Tree.{n-rule}
use Rattle.tu_token.specs.Rules.{r-expr, r-compare, r-sum, r-term, r-prefix, r-primary, r-path, many}
use Rattle.tu_token.specs.Syntax.{Of}
use Rattle.tu_expr.specs.Parts.{Part, text_of}
use Rattle.tu_token.specs.LexFaults.{value_after}
use Rattle.tu_expr.specs.Views.{signed, multiplied}
use Rattle.tu_expr.specs.Levels.{OnlyCompare, OnlySum, OnlyPrimary}
use Rattle.tu_expr.specs.Forms.{NoMore, More, Compare, Sum, Term, Related, Added, Subtracted, Multiplied, NumberValue, PathValue, Brackets, Path}
use Rattle.ir_build.specs.Relations.{comparison_of}
use Rattle.tu_tree_meaning.specs.Values.{Variable, variable_of}

module _ (declared : List Variable) where
  abbrev pub is_declared : Variable → Bool
  is_declared x = list_any (bytes_eq x) declared

  abbrev mutual
    pub is_built : Of r-expr → Bool
    is_built (OnlySum _ _ _ _ _ x) = is_built_sum x
    is_built other = false

    pub is_built_sum : Of r-sum → Bool
    is_built_sum (Sum m first more) = is_built_term first && are_built_terms more

    pub are_built_terms : Part (many signed) → Bool
    are_built_terms NoMore = true
    are_built_terms (More (Added _ x) more) = is_built_term x && are_built_terms more
    are_built_terms (More (Subtracted _ x) more) = is_built_term x && are_built_terms more

    pub is_built_term : Of r-term → Bool
    is_built_term (Term m first more) = is_built_prefix first && are_built_factors more

    pub are_built_factors : Part (many multiplied) → Bool
    are_built_factors NoMore = true
    are_built_factors (More (Multiplied _ x) more) = is_built_prefix x && are_built_factors more
    are_built_factors other = false

    pub is_built_prefix : Of r-prefix → Bool
    is_built_prefix (OnlyPrimary _ _ x) = is_built_primary x
    is_built_prefix other = false

    pub is_built_primary : Of r-primary → Bool
    is_built_primary (NumberValue m digits) = nat_le (value_after 0 (text_of digits)) 2147483647
    is_built_primary (PathValue m path) = is_built_path path
    is_built_primary (Brackets m _ x _) = is_built x
    is_built_primary (n-rule m other) = false

    pub is_built_path : Of r-path → Bool
    is_built_path (Path m root NoMore) = is_declared (variable_of root)
    is_built_path (n-rule m other) = false

  -- a condition is one comparison
  abbrev pub is_tested_compare : Of r-compare → Bool
  is_tested_compare (Compare m first (More (Related relation operand) NoMore)) = is_built_sum first && (is_some (comparison_of relation) && is_built_sum operand)
  is_tested_compare other = false

  abbrev pub is_tested : Of r-expr → Bool
  is_tested (OnlyCompare _ _ _ _ x) = is_tested_compare x
  is_tested other = false
