use Rattle.std.proofs.Common.{◌≤◌}
use Rattle.tu_reader.proofs.Steps.{Turns}
use Rattle.tu_token.specs.declared.class.Class.TheVariants.{SignSemicolon}
use Rattle.grammar.specs.Tree.{n-sequence}
use Rattle.tu_reader.specs.Ahead.{weight}
use Rattle.tu_tree.specs.StatementViews.{block_part, block_part_view}
use Rattle.tu_tree.specs.Parts.{flag, separated}
use Rattle.tu_parse.proofs.blocks.BlockReader.whole.Given as goal

abbrev pub invariant-loop-tokens : goal.invariant-loop-tokens
invariant-loop-tokens g l = Turns (separated block_part) (λ x. n-sequence (block_part_view x.0) (flag SignSemicolon x.1)) l.parts l.initial.tokens l.tokens × (weight l.tokens ≤ weight l.initial.tokens)

abbrev pub decreases-loop-tokens : goal.decreases-loop-tokens
decreases-loop-tokens g l = weight l.tokens
