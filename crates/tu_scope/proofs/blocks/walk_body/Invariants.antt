use Rattle.grammar.specs.Tree.{n-sequence}
use Rattle.tu_token.specs.declared.class.Class.TheVariants.{SignSemicolon}
use Rattle.tu_tree.specs.Parts.{flag, separated}
use Rattle.tu_tree.specs.StatementViews.{block_part, block_part_view}
use Rattle.tu_scope_rules.specs.declared.event.Context.TheVariants.{Elsewhere}
use Rattle.tu_scope_parts.proofs.Turns.{Turns}
use Rattle.tu_scope.proofs.blocks.walk_body.Given as goal

abbrev pub invariant-loop-x : goal.invariant-loop-x
invariant-loop-x l = Turns Elsewhere (separated block_part) (λ x. n-sequence (block_part_view x.0) (flag SignSemicolon x.1)) l.x-items l.x-index l.initial.out l.out
