use Rattle.std.proofs.Common.{◌≤◌}
use Rattle.tu_reader.proofs.Steps.{Turns}
use Rattle.tu_reader.specs.Ahead.{weight}
use Rattle.tu_expr.specs.Views.{multiplied, multiplied_view}
use Rattle.tu_reader.proofs.expressions.ExprReader.term.Given as goal

abbrev pub invariant-loop-multiplication : goal.invariant-loop-multiplication
invariant-loop-multiplication g l = Turns multiplied multiplied_view l.more l.initial.tokens l.tokens × (weight l.tokens ≤ weight l.initial.tokens)

abbrev pub decreases-loop-multiplication : goal.decreases-loop-multiplication
decreases-loop-multiplication g l = weight l.tokens
