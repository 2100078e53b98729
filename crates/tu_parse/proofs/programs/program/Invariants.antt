use Rattle.std.proofs.Common.{◌≤◌}
use Rattle.tu_reader.proofs.Steps.{Turns}
use Rattle.tu_token.specs.declared.class.Class.TheVariants.{SignSemicolon}
use Rattle.tu_token.specs.Rules.{r-item}
use Rattle.grammar.specs.Description.{rule}
use Rattle.grammar.specs.Tree.{n-sequence}
use Rattle.tu_reader.specs.Ahead.{weight}
use Rattle.tu_tree.specs.Parts.{flag, separated}
use Rattle.tu_parse.proofs.programs.program.Given as goal

abbrev pub invariant-loop-alloc : goal.invariant-loop-alloc
invariant-loop-alloc l = Turns (separated (rule r-item)) (λ x. n-sequence (x.0) (flag SignSemicolon x.1)) l.items l.initial.tokens l.tokens × (weight l.tokens ≤ weight l.initial.tokens)

abbrev pub decreases-loop-alloc : goal.decreases-loop-alloc
decreases-loop-alloc l = weight l.tokens
