use Rattle.std.proofs.Common.{◌≤◌}
use Rattle.tu_reader.proofs.Steps.{Turns}
use Rattle.tu_reader.specs.Ahead.{weight}
use Rattle.tu_expr.specs.Views.{signed, signed_view}
use Rattle.tu_reader.proofs.expressions.ExprReader.sum.Given as goal

abbrev pub invariant-loop-sign : goal.invariant-loop-sign
invariant-loop-sign g l = Turns signed signed_view l.more l.initial.tokens l.tokens × (weight l.tokens ≤ weight l.initial.tokens)

abbrev pub decreases-loop-sign : goal.decreases-loop-sign
decreases-loop-sign g l = weight l.tokens
