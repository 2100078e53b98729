use Rattle.std.proofs.Common.{◌≤◌}
use Rattle.tu_reader.proofs.Steps.{Turns}
use Rattle.tu_token.specs.declared.class.Class.TheVariants.{WordOr}
use Rattle.tu_token.specs.Rules.{◌⨟◌, t, r-and}
use Rattle.grammar.specs.Description.{rule}
use Rattle.grammar.specs.Tree.{n-sequence, n-token}
use Rattle.tu_reader.specs.Ahead.{weight}
use Rattle.tu_reader.proofs.expressions.ExprReader.or.Given as goal

abbrev pub invariant-loop-tokens : goal.invariant-loop-tokens
invariant-loop-tokens g l = Turns (t WordOr ⨟ rule r-and) (λ x. n-sequence n-token x) l.more l.initial.tokens l.tokens × (weight l.tokens ≤ weight l.initial.tokens)

abbrev pub decreases-loop-tokens : goal.decreases-loop-tokens
decreases-loop-tokens g l = weight l.tokens
