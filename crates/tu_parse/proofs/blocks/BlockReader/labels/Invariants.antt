use Rattle.std.proofs.Common.{◌≤◌}
use Rattle.tu_reader.proofs.Steps.{Turns}
use Rattle.tu_reader.proofs.Lists.{behind_comma}
use Rattle.tu_token.specs.declared.class.Class.TheVariants.{SignComma}
use Rattle.tu_token.specs.Rules.{◌⨟◌, t, r-expr}
use Rattle.grammar.specs.Description.{rule}
use Rattle.tu_reader.specs.Ahead.{weight}
use Rattle.tu_reader.proofs.Lists.{behind_comma}
use Rattle.tu_parse.proofs.blocks.BlockReader.labels.Given as goal

abbrev pub invariant-loop-tokens : goal.invariant-loop-tokens
invariant-loop-tokens g l = Turns (t SignComma ⨟ rule r-expr) (behind_comma r-expr) l.more l.initial.tokens l.tokens × (weight l.tokens ≤ weight l.initial.tokens)

abbrev pub decreases-loop-tokens : goal.decreases-loop-tokens
decreases-loop-tokens g l = weight l.tokens
