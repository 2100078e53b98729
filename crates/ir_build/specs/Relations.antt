-- How the relations of the grammar are tested on words.
use Rattle.std.specs.Prelude.{Option, Some, None}
use Rattle.tu_base.specs.declared.operator.Relation.TheVariants as base
use Rattle.tu_token.specs.Rules.{r-relation}
use Rattle.tu_token.specs.Syntax.{Of}
use Rattle.tu_expr.specs.Forms.{Equal, NotEqual, Less, Greater, LessOrEqual, GreaterOrEqual}
use Rattle.tu_value.specs.Comparisons.{Comparison, comparison_of as of_scalars}

-- `in` and `not in` are not tested on words
abbrev pub comparison_of : Of r-relation → Option Comparison
comparison_of (Equal m _) = Some (of_scalars base.Equal)
comparison_of (NotEqual m _) = Some (of_scalars base.NotEqual)
comparison_of (Less m _) = Some (of_scalars base.Less)
comparison_of (Greater m _) = Some (of_scalars base.Greater)
comparison_of (LessOrEqual m _) = Some (of_scalars base.LessOrEqual)
comparison_of (GreaterOrEqual m _) = Some (of_scalars base.GreaterOrEqual)
comparison_of relation = None
