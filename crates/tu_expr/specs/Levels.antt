-- What an expression and a factor are where the levels round it have no operators.
use Rattle.std.specs.Prelude.{ℕ, Result, Ok, Err}
use Rattle.grammar.specs.Tree.{Mark}
use Rattle.tu_token.specs.Rules.{r-expr, r-compare, r-sum, r-prefix, r-primary}
use Rattle.tu_token.specs.Syntax.{Of}
use Rattle.tu_expr.specs.Forms.{NoMore, More, Expr, Or, And, Not, Compare, Prefix, Power}

-- an expression that is one comparison, one that is one sum, and a factor without signs and powers
pattern abbrev pub OnlyCompare : Mark → Mark → Mark → Mark → Of r-compare → Of r-expr
OnlyCompare m a b c x = Expr m (Or a (And b (Not c NoMore x) NoMore) NoMore) NoMore

pattern abbrev pub OnlySum : Mark → Mark → Mark → Mark → Mark → Of r-sum → Of r-expr
OnlySum m a b c d x = OnlyCompare m a b c (Compare d x NoMore)

pattern abbrev pub OnlyPrimary : Mark → Mark → Of r-primary → Of r-prefix
OnlyPrimary m a x = Prefix m NoMore (Power a x NoMore)

-- the line of the outermost level with operators, or else of the comparison
abbrev pub operator_line : Of r-expr → ℕ
operator_line (Expr m x (More y more)) = m.line
operator_line (Expr _ (Or m x (More y more)) NoMore) = m.line
operator_line (Expr _ (Or _ (And m x (More y more)) NoMore) NoMore) = m.line
operator_line (Expr _ (Or _ (And _ (Not m (More y more) x) NoMore) NoMore) NoMore) = m.line
operator_line (OnlyCompare _ _ _ _ (Compare m x more)) = m.line

-- the comparison that an expression is, or the line of an operator above it
abbrev pub compare_of : Of r-expr → Result (Of r-compare) ℕ
compare_of (OnlyCompare _ _ _ _ x) = Ok x
compare_of other = Err (operator_line other)

-- the sum that an expression is, or the line of an operator above it
abbrev pub sum_of : Of r-expr → Result (Of r-sum) ℕ
sum_of (OnlySum _ _ _ _ _ x) = Ok x
sum_of other = Err (operator_line other)

-- the line of a factor with signs, or else of its power
abbrev pub factor_line : Of r-prefix → ℕ
factor_line (Prefix m (More y more) x) = m.line
factor_line (Prefix _ NoMore (Power m x more)) = m.line

-- what a factor is without signs and powers, or the line of one of these
abbrev pub primary_of : Of r-prefix → Result (Of r-primary) ℕ
primary_of (OnlyPrimary _ _ x) = Ok x
primary_of other = Err (factor_line other)
