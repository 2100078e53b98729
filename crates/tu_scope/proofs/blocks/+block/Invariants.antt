use Rattle.grammar.specs.Description.{rule}
use Rattle.grammar.specs.Tree.{n-sequence}
use Rattle.tu_token.specs.declared.class.Class.TheVariants.{SignSemicolon}
use Rattle.tu_token.specs.Rules.{r-elsif}
use Rattle.tu_tree.specs.Parts.{flag, separated}
use Rattle.tu_tree.specs.StatementViews.{block_part, block_part_view}
use Rattle.tu_scope_rules.specs.declared.event.Context.TheVariants.{Elsewhere}
use Rattle.tu_scope_parts.proofs.Turns.{Turns}
use Rattle.tu_scope.proofs.Arms.{Arms}
use Rattle.tu_scope.proofs.blocks.+block.Given as goal

abbrev pub invariant-walk_block-loop-x : goal.invariant-walk_block-loop-x
invariant-walk_block-loop-x l = Turns Elsewhere (separated block_part) (λ x. n-sequence (block_part_view x.0) (flag SignSemicolon x.1)) l.x-items l.x-index l.initial.out l.out

abbrev pub invariant-walk_statement-loop-x : goal.invariant-walk_statement-loop-x
invariant-walk_statement-loop-x l = Turns Elsewhere (rule r-elsif) (λ x. x) l.x-items l.x-index l.initial.out l.out

abbrev pub invariant-walk_statement-loop-x-2 : goal.invariant-walk_statement-loop-x-2
invariant-walk_statement-loop-x-2 l = Arms l.x-items l.x-index l.initial.out l.out
