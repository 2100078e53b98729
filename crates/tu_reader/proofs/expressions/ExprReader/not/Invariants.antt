use Rattle.std.proofs.Common.{ℕ, ◌≤◌, ◌+◌, replicate}
use Rattle.tu_reader.proofs.Steps.{Turns}
use Rattle.tu_token.specs.declared.class.Class.TheVariants.{WordNot}
use Rattle.tu_token.specs.Rules.{t}
use Rattle.grammar.specs.Tree.{n-token}
use Rattle.tu_reader.specs.Ahead.{weight}
use Rattle.tu_reader.proofs.expressions.ExprReader.not.Given as goal

abbrev pub invariant-loop-nots : goal.invariant-loop-nots
invariant-loop-nots g l = Turns {A = ℕ} (t WordNot) (λ x. n-token) (replicate l.nots 0) l.initial.tokens l.tokens × (l.nots + weight l.tokens ≤ weight l.initial.tokens)

abbrev pub decreases-loop-nots : goal.decreases-loop-nots
decreases-loop-nots g l = weight l.tokens
