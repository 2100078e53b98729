use Rattle.std.proofs.Common.{refl}
use Rattle.tu_reader.proofs.Steps.{left_takes, right_takes, behind_nothing, starts_behind_nothing, starts_neither}
use Rattle.tu_reader.proofs.operator.multiplication.Goals as goal

pub returns-then-eat-clause-offers : goal.returns-then-eat-clause-offers
returns-then-eat-clause-offers c = left_takes refl c.if-eat.ensures.eats.1

pub returns-then-eat-2-clause-offers : goal.returns-then-eat-2-clause-offers
returns-then-eat-2-clause-offers c = behind_nothing c.if-eat.ensures.eats.1 (right_takes refl refl (left_takes refl c.if-eat-2.ensures.eats.1))

pub returns-then-eat-3-clause-offers : goal.returns-then-eat-3-clause-offers
returns-then-eat-3-clause-offers c = behind_nothing c.if-eat.ensures.eats.1 (behind_nothing c.if-eat-2.ensures.eats.1 (right_takes refl refl (right_takes refl refl c.if-eat-3.ensures.eats.1)))

pub returns-else-eat-3-clause-offers : goal.returns-else-eat-3-clause-offers
returns-else-eat-3-clause-offers c = (starts_neither c.if-eat.ensures.eats.0 (starts_behind_nothing c.if-eat.ensures.eats.1 (starts_neither c.if-eat-2.ensures.eats.0 (starts_behind_nothing c.if-eat-2.ensures.eats.1 c.if-eat-3.ensures.eats.0))), behind_nothing c.if-eat.ensures.eats.1 (behind_nothing c.if-eat-2.ensures.eats.1 c.if-eat-3.ensures.eats.1))
