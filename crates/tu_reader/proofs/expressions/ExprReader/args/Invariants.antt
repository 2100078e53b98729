use Rattle.std.proofs.Common.{◌≤◌}
use Rattle.tu_reader.proofs.Lists.{Listed}
use Rattle.tu_token.specs.Rules.{r-arg}
use Rattle.tu_reader.specs.Ahead.{weight}
use Rattle.tu_reader.proofs.expressions.ExprReader.args.Given as goal

abbrev pub invariant-loop-tokens : goal.invariant-loop-tokens
invariant-loop-tokens g l = Listed r-arg l.args l.fn.tokens l.tokens × (weight l.tokens ≤ weight l.initial.tokens)

abbrev pub decreases-loop-tokens : goal.decreases-loop-tokens
decreases-loop-tokens g l = weight l.tokens
