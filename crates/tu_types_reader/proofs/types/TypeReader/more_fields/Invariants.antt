use Rattle.std.proofs.Common.{◌≤◌}
use Rattle.tu_reader.proofs.Steps.{Turns}
use Rattle.tu_token.specs.Rules.{r-field}
use Rattle.grammar.specs.Description.{rule}
use Rattle.tu_reader.specs.Ahead.{weight}
use Rattle.tu_types_reader.proofs.types.TypeReader.more_fields.Given as goal

abbrev pub invariant-loop-tokens : goal.invariant-loop-tokens
invariant-loop-tokens g l = Turns (rule r-field) (λ x. x) l.more l.initial.tokens l.tokens × (weight l.tokens ≤ weight l.initial.tokens)

abbrev pub decreases-loop-tokens : goal.decreases-loop-tokens
decreases-loop-tokens g l = weight l.tokens
