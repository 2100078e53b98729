use Rattle.std.proofs.Common.{◌≤◌}
use Rattle.tu_reader.proofs.Steps.{Turns}
use Rattle.tu_reader.specs.Ahead.{weight}
use Rattle.tu_expr.specs.Views.{bracketed, bracketed_view}
use Rattle.tu_reader.proofs.expressions.ExprReader.text.Given as goal

abbrev pub invariant-loop-tokens : goal.invariant-loop-tokens
invariant-loop-tokens g l = Turns bracketed bracketed_view l.parts l.initial.tokens l.tokens × (weight l.tokens ≤ weight l.initial.tokens)

abbrev pub decreases-loop-tokens : goal.decreases-loop-tokens
decreases-loop-tokens g l = weight l.tokens
