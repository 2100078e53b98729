use Rattle.tu_token.specs.Rules.{r-formal}
use Rattle.tu_flatten_parts.proofs.Lists.{Listed}
use Rattle.tu_flatten.proofs.subprograms.write_formals.Given as goal

abbrev pub invariant-loop-i : goal.invariant-loop-i
invariant-loop-i l = Listed r-formal l.x-items l.i l.initial.out l.out
