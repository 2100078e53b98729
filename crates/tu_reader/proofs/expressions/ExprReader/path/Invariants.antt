use Rattle.std.proofs.Common.{◌≤◌}
use Rattle.tu_reader.proofs.Steps.{Turns}
use Rattle.tu_reader.specs.Ahead.{weight}
use Rattle.tu_expr.specs.Views.{steps, step_view}
use Rattle.tu_reader.proofs.expressions.ExprReader.path.Given as goal

abbrev pub invariant-loop-steps : goal.invariant-loop-steps
invariant-loop-steps g l = Turns steps step_view l.steps l.initial.tokens l.tokens × (weight l.tokens ≤ weight l.initial.tokens)

abbrev pub decreases-loop-steps : goal.decreases-loop-steps
decreases-loop-steps g l = weight l.tokens
