use Rattle.std.specs.Prelude.{◌≡◌, drop}
use Rattle.tu_core.specs.Walk.{brackets}
use Rattle.tu_core_expressions.specs.ExpressionViews.{subscripts_view}
use Rattle.tu_overlap.specs.Verdicts.{brackets_view}
use Rattle.tu_overlap.proofs.walking.compare_brackets.Given as goal

abbrev pub invariant-loop-place : goal.invariant-loop-place
invariant-loop-place l = brackets_view l.found ≡ brackets (subscripts_view (drop l.place l.first)) (subscripts_view (drop l.place l.second))
