use Rattle.std.proofs.Common.{refl}
use Rattle.tu_reader.proofs.Steps.{◌▸◌, ◌▹◌, first_stops, left_takes, right_takes, right_stops, exits, otherwise_stops}
use Rattle.tu_parse.proofs.subprograms.subprogram_form.Goals as goal

pub returns-in_err-head-clause-reads : goal.returns-in_err-head-clause-reads
returns-in_err-head-clause-reads c = exits _ _ _ _ c.from_residual.ensures.1 (right_stops c.if-sees.ensures (otherwise_stops refl refl c.if-sees-2.ensures (first_stops c.in_err-head.ensures.reads)))

pub returns-in_err-import-clause-reads : goal.returns-in_err-import-clause-reads
returns-in_err-import-clause-reads c = exits _ _ _ _ c.from_residual-in_err-import.ensures.1 (right_stops c.if-sees.ensures (otherwise_stops refl refl c.if-sees-2.ensures (c.in_ok-head.ensures.reads ▹ first_stops c.in_err-import.ensures.reads)))

pub returns-in_err-rest-clause-reads : goal.returns-in_err-rest-clause-reads
returns-in_err-rest-clause-reads c = exits _ _ _ _ c.from_residual-in_err-rest.ensures.1 (right_stops c.if-sees.ensures (otherwise_stops refl refl c.if-sees-2.ensures (c.in_ok-head.ensures.reads ▹ (c.in_ok-import.ensures.reads ▹ c.in_err-rest.ensures.reads))))

pub returns-clause-reads : goal.returns-clause-reads
returns-clause-reads c = rw (c.into_inner-head.ensures, c.new-head.ensures) (right_takes refl refl (left_takes refl (c.in_ok-head.ensures.reads ▸ (c.in_ok-import.ensures.reads ▸ c.in_ok-rest.ensures.reads))))
