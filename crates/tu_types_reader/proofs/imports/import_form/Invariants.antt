use Rattle.std.proofs.Common.{◌≤◌}
use Rattle.tu_reader.proofs.Steps.{Turns}
use Rattle.tu_reader.proofs.Lists.{behind_comma}
use Rattle.tu_token.specs.declared.class.Class.TheVariants.{SignComma}
use Rattle.tu_token.specs.Rules.{◌⨟◌, t, r-imp}
use Rattle.grammar.specs.Description.{rule}
use Rattle.tu_reader.specs.Ahead.{weight}
use Rattle.tu_reader.proofs.Lists.{behind_comma}
use Rattle.tu_types_reader.proofs.imports.import_form.Given as goal

abbrev pub invariant-loop-alloc : goal.invariant-loop-alloc
invariant-loop-alloc l = Turns (t SignComma ⨟ rule r-imp) (behind_comma r-imp) l.more l.initial.tokens l.tokens × (weight l.tokens ≤ weight l.initial.tokens)

abbrev pub decreases-loop-alloc : goal.decreases-loop-alloc
decreases-loop-alloc l = weight l.tokens
