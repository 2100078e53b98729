use Rattle.std.proofs.Common.{◌≤◌}
use Rattle.tu_reader.proofs.Lists.{Listed}
use Rattle.tu_token.specs.Rules.{r-imp}
use Rattle.tu_reader.specs.Ahead.{weight}
use Rattle.tu_types_reader.proofs.imports.bracketed_imports.Given as goal

abbrev pub invariant-loop-alloc : goal.invariant-loop-alloc
invariant-loop-alloc l = Listed r-imp l.items l.fn.tokens l.tokens × (weight l.tokens ≤ weight l.initial.tokens)

abbrev pub decreases-loop-alloc : goal.decreases-loop-alloc
decreases-loop-alloc l = weight l.tokens
