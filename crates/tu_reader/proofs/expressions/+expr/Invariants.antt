use Rattle.tu_reader.proofs.expressions.+expr.Given as goal

abbrev pub decreases-expr : goal.decreases-expr
decreases-expr l = l.depth

abbrev pub decreases-term : goal.decreases-term
decreases-term l = l.depth
