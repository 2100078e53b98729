use Rattle.std.proofs.Common.{◌≤◌}
use Rattle.tu_reader.proofs.Steps.{Turns}
use Rattle.tu_token.specs.Rules.{r-elsif}
use Rattle.grammar.specs.Description.{rule}
use Rattle.tu_reader.specs.Ahead.{weight}
use Rattle.tu_parse.proofs.blocks.BlockReader.elsifs.Given as goal

abbrev pub invariant-loop-tokens : goal.invariant-loop-tokens
invariant-loop-tokens g l = Turns (rule r-elsif) (λ x. x) l.elsifs l.initial.tokens l.tokens × (weight l.tokens ≤ weight l.initial.tokens)

abbrev pub decreases-loop-tokens : goal.decreases-loop-tokens
decreases-loop-tokens g l = weight l.tokens
