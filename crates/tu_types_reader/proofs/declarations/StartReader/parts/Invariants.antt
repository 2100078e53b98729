use Rattle.std.proofs.Common.{◌≤◌}
use Rattle.tu_reader.proofs.Steps.{Turns}
use Rattle.tu_reader.proofs.Lists.{behind_comma}
use Rattle.tu_token.specs.declared.class.Class.TheVariants.{SignComma}
use Rattle.tu_token.specs.Rules.{◌⨟◌, t, r-start}
use Rattle.grammar.specs.Description.{rule}
use Rattle.tu_reader.specs.Ahead.{weight}
use Rattle.tu_types_reader.proofs.declarations.StartReader.parts.Given as goal

abbrev pub invariant-loop-tokens : goal.invariant-loop-tokens
invariant-loop-tokens g l = Turns (t SignComma ⨟ rule r-start) (behind_comma r-start) l.more l.initial.tokens l.tokens × (weight l.tokens ≤ weight l.initial.tokens)

abbrev pub decreases-loop-tokens : goal.decreases-loop-tokens
decreases-loop-tokens g l = weight l.tokens
