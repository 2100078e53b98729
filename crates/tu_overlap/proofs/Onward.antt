-- Pairs that are added one after the other.
use Rattle.std.proofs.Common.{ℕ, Bool, List}
use Rattle.tu_core.specs.Core.{Path}
use Rattle.tu_core.specs.Walk.{Pair, pairs_from, pairs_with}
use Rattle.tu_core_expressions.specs.declared.call.Actual.{Actual}
use Rattle.tu_core_expressions.specs.ExpressionViews.{actuals_view}

abbrev pub with_later : (first : ℕ) → (is_var : Bool) → Path → (second : ℕ) → List Actual → List Pair
with_later first is_var p second xs = pairs_with first is_var p second (actuals_view xs)

abbrev pub from_first : (first : ℕ) → List Actual → List Pair
from_first first xs = pairs_from first (actuals_view xs)
