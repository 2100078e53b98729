use Rattle.std.proofs.Common.{◌+◌, ◌*◌}
use Rattle.grammar.specs.Description.{rule}
use Rattle.grammar.specs.Tree.{n-sequence, height}
use Rattle.tu_token.specs.declared.class.Class.TheVariants.{SignSemicolon}
use Rattle.tu_token.specs.Rules.{r-elsif}
use Rattle.tu_tree.specs.declared.statement.StatementForm.TheVariants as statement
use Rattle.tu_tree.specs.Parts.{flag, separated}
use Rattle.tu_tree.specs.StatementViews.{block_part, block_part_view, else_view, last_arm_view, statement_view}
use Rattle.tu_flatten.proofs.Arms.{Arms}
use Rattle.tu_flatten_parts.proofs.Lists.{Turns}
use Rattle.tu_flatten.proofs.blocks.+block.Given as goal

abbrev pub invariant-write_block-loop-x : goal.invariant-write_block-loop-x
invariant-write_block-loop-x l = Turns (separated block_part) (λ x. n-sequence (block_part_view x.0) (flag SignSemicolon x.1)) l.x-items l.x-index l.initial.out l.out

abbrev pub invariant-write_if-loop-x : goal.invariant-write_if-loop-x
invariant-write_if-loop-x l = Turns (rule r-elsif) (λ x. x) l.x-items l.x-index l.initial.out l.out

abbrev pub invariant-write_case-loop-x : goal.invariant-write_case-loop-x
invariant-write_case-loop-x l = Arms l.x-items l.x-index l.initial.out l.out

abbrev pub decreases-write_if : goal.decreases-write_if
decreases-write_if l = 3 * height (statement_view (statement.If l.condition.now l.block.now l.elsifs.now l.otherwise.now)) + 5

abbrev pub decreases-write_for : goal.decreases-write_for
decreases-write_for l = 3 * height (statement_view (statement.For l.is_decreasing l.name.now l.range.now l.invariant.now l.block.now)) + 5

abbrev pub decreases-write_case : goal.decreases-write_case
decreases-write_case l = 3 * height (statement_view (statement.Case l.subject.now l.arms.now l.otherwise.now)) + 5

abbrev pub decreases-write_else : goal.decreases-write_else
decreases-write_else l = 3 * height (else_view l.otherwise.now) + 4

abbrev pub decreases-write_arm : goal.decreases-write_arm
decreases-write_arm l = 3 * height l.arm.now.block + 4

abbrev pub decreases-write_last_arm : goal.decreases-write_last_arm
decreases-write_last_arm l = 3 * height (last_arm_view l.otherwise.now) + 1
