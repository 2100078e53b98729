-- What operators give.
use Rattle.std.specs.Prelude.{Bool, ℤ, ◌+ℤ◌, ◌-ℤ◌, ◌*ℤ◌, if◌then◌else◌}
use Rattle.tu_base.specs.declared.kind.Kind.{Kind}
use Rattle.tu_base.specs.declared.kind.Kind.TheVariants.{Overflow}
use Rattle.tu_base.specs.declared.operator.Relation.TheVariants as base
use Rattle.tu_base.specs.Scalars.{is_int, compared}
use Rattle.tu_token.specs.Rules.{r-relation}
use Rattle.tu_token.specs.Syntax.{Of}
use Rattle.tu_expr.specs.Forms.{Equal, NotEqual, Less, Greater, LessOrEqual, GreaterOrEqual}
use Rattle.tu_tree_meaning.specs.Values.{Value, Int, Truth}

-- what an operator answers: a value or an exception, or that it does not take such operands
pub data Answer : Type 0 where
  Gives : Value → Answer
  Raises : Kind → Answer
  NoRule : Answer

-- the exact result, or Overflow
abbrev pub exact : ℤ → Answer
exact z = if is_int z then Gives (Int z) else Raises Overflow

-- `+`, `-` and `*`
abbrev pub plus : Value → Value → Answer
plus (Int a) (Int b) = exact (a +ℤ b)
plus x y = NoRule

abbrev pub minus : Value → Value → Answer
minus (Int a) (Int b) = exact (a -ℤ b)
minus x y = NoRule

abbrev pub times : Value → Value → Answer
times (Int a) (Int b) = exact (a *ℤ b)
times x y = NoRule

-- a truth value as an answer
abbrev pub truth : Bool → Answer
truth b = Gives (Truth b)

-- what a relation says of two ints; `in` and `not in` have no meaning yet
abbrev pub relate : Of r-relation → Value → Value → Answer
relate (Equal m _) (Int a) (Int b) = truth (compared base.Equal a b)
relate (NotEqual m _) (Int a) (Int b) = truth (compared base.NotEqual a b)
relate (Less m _) (Int a) (Int b) = truth (compared base.Less a b)
relate (Greater m _) (Int a) (Int b) = truth (compared base.Greater a b)
relate (LessOrEqual m _) (Int a) (Int b) = truth (compared base.LessOrEqual a b)
relate (GreaterOrEqual m _) (Int a) (Int b) = truth (compared base.GreaterOrEqual a b)
relate relation x y = NoRule
