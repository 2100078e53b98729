use Rattle.std.proofs.Common.{◌≤◌}
use Rattle.tu_reader.proofs.Lists.{Listed}
use Rattle.tu_token.specs.Rules.{r-expr}
use Rattle.tu_reader.specs.Ahead.{weight}
use Rattle.tu_types_reader.proofs.types.TypeReader.labels.Given as goal

abbrev pub invariant-loop-tokens : goal.invariant-loop-tokens
invariant-loop-tokens g l = Listed r-expr l.labels l.fn.tokens l.tokens × (weight l.tokens ≤ weight l.initial.tokens)

abbrev pub decreases-loop-tokens : goal.decreases-loop-tokens
decreases-loop-tokens g l = weight l.tokens
