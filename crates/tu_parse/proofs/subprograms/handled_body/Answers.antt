use Rattle.tu_reader.proofs.Steps.{◌▸◌, ◌▹◌, first_stops, exits}
use Rattle.tu_parse.proofs.subprograms.handled_body.Goals as goal

pub returns-in_err-handler-clause-reads : goal.returns-in_err-handler-clause-reads
returns-in_err-handler-clause-reads c = exits _ _ _ _ c.from_residual.ensures.1 (first_stops c.in_err-handler.ensures.reads)

pub returns-in_err-body-clause-reads : goal.returns-in_err-body-clause-reads
returns-in_err-body-clause-reads c = exits _ _ _ _ c.from_residual-in_err-body.ensures.1 (c.in_ok-handler.ensures.reads ▹ c.in_err-body.ensures.reads)

pub returns-clause-reads : goal.returns-clause-reads
returns-clause-reads c = c.in_ok-handler.ensures.reads ▸ c.in_ok-body.ensures.reads
