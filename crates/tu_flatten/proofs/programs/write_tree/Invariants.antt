use Rattle.grammar.specs.Description.{rule}
use Rattle.grammar.specs.Tree.{n-sequence}
use Rattle.tu_token.specs.declared.class.Class.TheVariants.{SignSemicolon}
use Rattle.tu_token.specs.Rules.{r-item}
use Rattle.tu_tree.specs.Parts.{flag, separated}
use Rattle.tu_flatten_parts.proofs.Lists.{Turns}
use Rattle.tu_flatten.proofs.programs.write_tree.Given as goal

abbrev pub invariant-loop-x : goal.invariant-loop-x
invariant-loop-x l = Turns (separated (rule r-item)) (λ x. n-sequence x.0 (flag SignSemicolon x.1)) l.x-items l.x-index l.initial.out l.out
