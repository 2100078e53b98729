use Rattle.std.specs.Prelude.{map}
use Rattle.tu_core.specs.Walk.{walk_steps}
use Rattle.tu_core_expressions.specs.ExpressionViews.{selectors_view}
use Rattle.tu_overlap.specs.Verdicts.{noted_view}
use Rattle.tu_overlap.proofs.Steps.{Gone}
use Rattle.tu_overlap.proofs.walking.walk_steps.Given as goal

abbrev pub invariant-loop-place : goal.invariant-loop-place
invariant-loop-place l = Gone l.position l.place (map noted_view l.noted) l.first l.second (walk_steps l.position (map noted_view l.initial.noted) (selectors_view l.first) (selectors_view l.second))
