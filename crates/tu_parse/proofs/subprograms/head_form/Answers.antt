use Rattle.std.proofs.Common.{refl}
use Rattle.tu_reader.proofs.Steps.{◌▸◌, ◌▹◌, first_stops, left_takes, right_takes, left_stops, right_stops, exits}
use Rattle.tu_parse.proofs.subprograms.head_form.Goals as goal

pub returns-in_err-name-clause-reads : goal.returns-in_err-name-clause-reads
returns-in_err-name-clause-reads c = exits _ _ _ _ c.from_residual.ensures.1 (left_stops c.if-sees.ensures (c.skip.ensures.takes ▹ first_stops c.in_err-name.ensures.reads))

pub returns-in_err-formals-clause-reads : goal.returns-in_err-formals-clause-reads
returns-in_err-formals-clause-reads c = exits _ _ _ _ c.from_residual-in_err-formals.ensures.1 (left_stops c.if-sees.ensures (c.skip.ensures.takes ▹ (c.in_ok-name.ensures.reads ▹ c.in_err-formals.ensures.reads)))

pub returns-then-sees-clause-reads : goal.returns-then-sees-clause-reads
returns-then-sees-clause-reads c = left_takes refl (c.skip.ensures.takes ▸ (c.in_ok-name.ensures.reads ▸ c.in_ok-formals.ensures.reads))

pub returns-in_err-expect-clause-reads : goal.returns-in_err-expect-clause-reads
returns-in_err-expect-clause-reads c = exits _ _ _ _ c.from_residual-in_err-expect.ensures.1 (right_stops c.if-sees.ensures (first_stops c.in_err-expect.ensures.reads))

pub returns-in_err-name-2-clause-reads : goal.returns-in_err-name-2-clause-reads
returns-in_err-name-2-clause-reads c = exits _ _ _ _ c.from_residual-in_err-name-2.ensures.1 (right_stops c.if-sees.ensures (c.in_ok-expect.ensures.reads ▹ first_stops c.in_err-name-2.ensures.reads))

pub returns-in_err-formals-2-clause-reads : goal.returns-in_err-formals-2-clause-reads
returns-in_err-formals-2-clause-reads c = exits _ _ _ _ c.from_residual-in_err-formals-2.ensures.1 (right_stops c.if-sees.ensures (c.in_ok-expect.ensures.reads ▹ (c.in_ok-name-2.ensures.reads ▹ first_stops c.in_err-formals-2.ensures.reads)))

pub returns-in_err-result-clause-reads : goal.returns-in_err-result-clause-reads
returns-in_err-result-clause-reads c = exits _ _ _ _ c.from_residual-in_err-result.ensures.1 (right_stops c.if-sees.ensures (c.in_ok-expect.ensures.reads ▹ (c.in_ok-name-2.ensures.reads ▹ (c.in_ok-formals-2.ensures.reads ▹ c.in_err-result.ensures.reads))))

pub returns-clause-reads : goal.returns-clause-reads
returns-clause-reads c = right_takes refl refl (c.in_ok-expect.ensures.reads ▸ (c.in_ok-name-2.ensures.reads ▸ (c.in_ok-formals-2.ensures.reads ▸ c.in_ok-result.ensures.reads)))
