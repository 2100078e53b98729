use Rattle.std.proofs.Common.{refl}
use Rattle.tu_reader.proofs.Steps.{◌▸◌, ◌▹◌, first_stops, left_takes, right_takes, exits, otherwise_stops}
use Rattle.tu_reader.proofs.Choices.{seen_at, choice_stops}
use Rattle.tu_token.specs.Rules.{body, r-start}
use Rattle.tu_token.specs.declared.class.Class.TheVariants.{WordInit}
use Rattle.tu_types_reader.proofs.declarations.StartReader.form.Goals as goal

pub returns-in_err-expect-clause-reads : goal.returns-in_err-expect-clause-reads
returns-in_err-expect-clause-reads g c = exits _ _ _ _ c.from_residual.ensures.1 (choice_stops (seen_at {k = WordInit} c.if-sees.ensures) (body r-start) (c.skip.ensures.takes ▹ first_stops c.in_err-expect.ensures.reads))

pub returns-in_err-first-clause-reads : goal.returns-in_err-first-clause-reads
returns-in_err-first-clause-reads g c = exits _ _ _ _ c.from_residual-in_err-first.ensures.1 (choice_stops (seen_at {k = WordInit} c.if-sees.ensures) (body r-start) (c.skip.ensures.takes ▹ (c.in_ok-expect.ensures.reads ▹ c.in_err-first.ensures.reads)))

pub returns-then-sees-clause-reads : goal.returns-then-sees-clause-reads
returns-then-sees-clause-reads g c = right_takes refl refl (c.skip.ensures.takes ▸ (c.in_ok-expect.ensures.reads ▸ c.in_ok-first.ensures.reads))

pub returns-in_err-value-clause-reads : goal.returns-in_err-value-clause-reads
returns-in_err-value-clause-reads g c = exits _ _ _ _ c.from_residual-in_err-value.ensures.1 (otherwise_stops refl refl c.if-sees.ensures c.in_err-value.ensures.reads)

pub returns-clause-reads : goal.returns-clause-reads
returns-clause-reads g c = rw c.in_ok-new.ensures (left_takes refl c.in_ok-value.ensures.reads)
