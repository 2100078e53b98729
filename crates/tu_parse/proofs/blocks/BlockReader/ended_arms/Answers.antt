use Rattle.tu_reader.proofs.Steps.{◌▸◌, ◌▹◌, first_stops, exits}
use Rattle.tu_parse.proofs.blocks.BlockReader.ended_arms.Goals as goal

pub returns-in_err-arms-clause-reads : goal.returns-in_err-arms-clause-reads
returns-in_err-arms-clause-reads g c = exits _ _ _ _ c.from_residual.ensures.1 (first_stops c.in_err-arms.ensures.reads)

pub returns-in_err-end-clause-reads : goal.returns-in_err-end-clause-reads
returns-in_err-end-clause-reads g c = exits _ _ _ _ c.from_residual-in_err-end.ensures.1 (c.in_ok-arms.ensures.reads ▹ c.in_err-end.ensures.reads)

pub returns-clause-reads : goal.returns-clause-reads
returns-clause-reads g c = c.in_ok-arms.ensures.reads ▸ c.in_ok-end.ensures.reads
