use Rattle.tu_token.specs.declared.class.Class.TheVariants.{SignStar}
use Rattle.std.proofs.Common.{refl}
use Rattle.tu_reader.proofs.Steps.{◌▸◌, ◌▹◌, left_takes, right_takes, none_takes, left_stops, exits, otherwise_stops}
use Rattle.tu_reader.proofs.Choices.{seen_at, choice_stops}
use Rattle.tu_token.specs.Rules.{body, r-place}
use Rattle.tu_reader.proofs.expressions.ExprReader.place_form.Goals as goal

pub returns-in_err-term-clause-reads : goal.returns-in_err-term-clause-reads
returns-in_err-term-clause-reads g c = exits _ _ _ _ c.from_residual.ensures.1 (choice_stops (seen_at {k = SignStar} c.if-sees.ensures) (body r-place) (c.skip.ensures.takes ▹ left_stops c.if-eat.ensures.eats.0 (c.if-eat.ensures.eats.1 ▹ c.in_err-term.ensures.reads)))

pub returns-then-eat-clause-reads : goal.returns-then-eat-clause-reads
returns-then-eat-clause-reads g c = right_takes refl refl (c.skip.ensures.takes ▸ left_takes refl (c.if-eat.ensures.eats.1 ▸ c.in_ok-term.ensures.reads))

pub returns-then-sees-clause-reads : goal.returns-then-sees-clause-reads
returns-then-sees-clause-reads g c = right_takes refl refl (c.skip.ensures.takes ▸ none_takes c.if-eat.ensures.eats.0 c.if-eat.ensures.eats.1)

pub returns-in_err-value-clause-reads : goal.returns-in_err-value-clause-reads
returns-in_err-value-clause-reads g c = exits _ _ _ _ c.from_residual-in_err-value.ensures.1 (otherwise_stops refl refl c.if-sees.ensures c.in_err-value.ensures.reads)

pub returns-clause-reads : goal.returns-clause-reads
returns-clause-reads g c = left_takes refl c.in_ok-value.ensures.reads
