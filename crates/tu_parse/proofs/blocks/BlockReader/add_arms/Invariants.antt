use Rattle.std.proofs.Common.{◌≤◌}
use Rattle.tu_reader.specs.Ahead.{weight}
use Rattle.tu_parse.proofs.Arms.{Arms}
use Rattle.tu_parse.proofs.blocks.BlockReader.add_arms.Given as goal

abbrev pub invariant-loop-tokens : goal.invariant-loop-tokens
invariant-loop-tokens g l = Arms l.arms l.initial.tokens l.tokens × (weight l.tokens ≤ weight l.initial.tokens)

abbrev pub decreases-loop-tokens : goal.decreases-loop-tokens
decreases-loop-tokens g l = weight l.tokens
