use Rattle.std.proofs.Common.{refl}
use Rattle.tu_reader.proofs.Steps.{◌▸◌, ◌▹◌, first_stops, left_takes, right_takes, none_takes, left_stops, exits, otherwise_stops}
use Rattle.tu_reader.proofs.expressions.ExprReader.arg_form.Goals as goal

pub returns-then-sees-clause-reads : goal.returns-then-sees-clause-reads
returns-then-sees-clause-reads g c = right_takes refl refl c.skip.ensures.takes

pub returns-in_err-from-clause-reads : goal.returns-in_err-from-clause-reads
returns-in_err-from-clause-reads g c = exits _ _ _ _ c.from_residual.ensures.1 (otherwise_stops refl refl c.if-sees.ensures (first_stops c.in_err-from.ensures.reads))

pub returns-in_err-to-clause-reads : goal.returns-in_err-to-clause-reads
returns-in_err-to-clause-reads g c = exits _ _ _ _ c.from_residual-in_err-to.ensures.1 (otherwise_stops refl refl c.if-sees.ensures (c.in_ok-from.ensures.reads ▹ left_stops c.if-eat.ensures.eats.0 (c.if-eat.ensures.eats.1 ▹ c.in_err-to.ensures.reads)))

pub returns-then-eat-clause-reads : goal.returns-then-eat-clause-reads
returns-then-eat-clause-reads g c = rw (c.into_inner.ensures, c.new-from.ensures) (left_takes refl (c.in_ok-from.ensures.reads ▸ left_takes refl (c.if-eat.ensures.eats.1 ▸ c.in_ok-to.ensures.reads)))

pub returns-clause-reads : goal.returns-clause-reads
returns-clause-reads g c = rw (c.into_inner-2.ensures, c.new-from.ensures) (left_takes refl (c.in_ok-from.ensures.reads ▸ none_takes c.if-eat.ensures.eats.0 c.if-eat.ensures.eats.1))
