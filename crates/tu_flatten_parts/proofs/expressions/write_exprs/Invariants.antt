use Rattle.tu_token.specs.Rules.{r-expr}
use Rattle.tu_flatten_parts.proofs.Lists.{Listed}
use Rattle.tu_flatten_parts.proofs.expressions.write_exprs.Given as goal

abbrev pub invariant-loop-i : goal.invariant-loop-i
invariant-loop-i l = Listed r-expr l.x-items l.i l.initial.out l.out
