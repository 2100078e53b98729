use Rattle.tu_reader.proofs.Steps.{◌▸◌, ◌▹◌, first_stops, exits}
use Rattle.tu_parse.proofs.subprograms.body.Goals as goal

pub returns-in_err-block-clause-reads : goal.returns-in_err-block-clause-reads
returns-in_err-block-clause-reads c = exits _ _ _ _ c.from_residual.ensures.1 (first_stops c.in_err-block.ensures.reads)

pub returns-in_err-ending-clause-reads : goal.returns-in_err-ending-clause-reads
returns-in_err-ending-clause-reads c = exits _ _ _ _ c.from_residual-in_err-ending.ensures.1 (c.in_ok-block.ensures.reads ▹ c.in_err-ending.ensures.reads)

pub returns-clause-reads : goal.returns-clause-reads
returns-clause-reads c = c.in_ok-block.ensures.reads ▸ c.in_ok-ending.ensures.reads
