use Rattle.std.proofs.Common.{refl}
use Rattle.tu_reader.proofs.Steps.{◌▸◌, ◌▹◌, first_stops, left_takes, right_takes, right_stops, exits, otherwise_stops}
use Rattle.tu_reader.proofs.Choices.{seen_at, choice_stops}
use Rattle.tu_types_reader.specs.Variables.{variables}
use Rattle.tu_token.specs.declared.class.Class.TheVariants.{SignAssign, WordCollection}
use Rattle.tu_types_reader.proofs.declarations.variable_form.Goals as goal

pub returns-in_err-value-clause-reads : goal.returns-in_err-value-clause-reads
returns-in_err-value-clause-reads c = exits _ _ _ _ c.from_residual.ensures.1 (choice_stops (seen_at {k = SignAssign} c.if-sees.ensures) variables (c.skip.ensures.takes ▹ c.in_err-value.ensures.reads))

pub returns-then-sees-clause-reads : goal.returns-then-sees-clause-reads
returns-then-sees-clause-reads c = rw c.in_ok-new.ensures (right_takes refl refl (c.skip.ensures.takes ▸ c.in_ok-value.ensures.reads))

pub returns-in_err-expect-clause-reads : goal.returns-in_err-expect-clause-reads
returns-in_err-expect-clause-reads c = exits _ _ _ _ c.from_residual-in_err-expect.ensures.1 (otherwise_stops refl refl c.if-sees.ensures (first_stops c.in_err-expect.ensures.reads))

pub returns-in_err-expect-2-clause-reads : goal.returns-in_err-expect-2-clause-reads
returns-in_err-expect-2-clause-reads c = exits _ _ _ _ c.from_residual-in_err-expect-2.ensures.1 (otherwise_stops refl refl c.if-sees.ensures (c.in_ok-expect.ensures.reads ▹ choice_stops (seen_at {k = WordCollection} c.if-sees-2.ensures) _ (c.skip-then-sees-2.ensures.takes ▹ first_stops c.in_err-expect-2.ensures.reads)))

pub returns-in_err-spec-clause-reads : goal.returns-in_err-spec-clause-reads
returns-in_err-spec-clause-reads c = exits _ _ _ _ c.from_residual-in_err-spec.ensures.1 (otherwise_stops refl refl c.if-sees.ensures (c.in_ok-expect.ensures.reads ▹ choice_stops (seen_at {k = WordCollection} c.if-sees-2.ensures) _ (c.skip-then-sees-2.ensures.takes ▹ (c.in_ok-expect-2.ensures.reads ▹ c.in_err-spec.ensures.reads))))

pub returns-then-sees-2-clause-reads : goal.returns-then-sees-2-clause-reads
returns-then-sees-2-clause-reads c = left_takes refl (c.in_ok-expect.ensures.reads ▸ left_takes refl (c.skip-then-sees-2.ensures.takes ▸ (c.in_ok-expect-2.ensures.reads ▸ c.in_ok-spec.ensures.reads)))

pub returns-in_err-spec-2-clause-reads : goal.returns-in_err-spec-2-clause-reads
returns-in_err-spec-2-clause-reads c = exits _ _ _ _ c.from_residual-in_err-spec-2.ensures.1 (otherwise_stops refl refl c.if-sees.ensures (c.in_ok-expect.ensures.reads ▹ right_stops c.if-sees-2.ensures (first_stops c.in_err-spec-2.ensures.reads)))

pub returns-in_err-start-clause-reads : goal.returns-in_err-start-clause-reads
returns-in_err-start-clause-reads c = exits _ _ _ _ c.from_residual-in_err-start.ensures.1 (otherwise_stops refl refl c.if-sees.ensures (c.in_ok-expect.ensures.reads ▹ right_stops c.if-sees-2.ensures (c.in_ok-spec-2.ensures.reads ▹ c.in_err-start.ensures.reads)))

pub returns-clause-reads : goal.returns-clause-reads
returns-clause-reads c = rw (c.into_inner-spec.ensures, c.new-spec.ensures) (left_takes refl (c.in_ok-expect.ensures.reads ▸ right_takes refl refl (c.in_ok-spec-2.ensures.reads ▸ c.in_ok-start.ensures.reads)))
