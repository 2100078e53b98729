use Rattle.tu_reader.proofs.Steps.{◌▸◌, ◌▹◌, first_stops, exits}
use Rattle.tu_parse.proofs.blocks.BlockReader.rounds.Goals as goal

pub returns-in_err-invariant-clause-reads : goal.returns-in_err-invariant-clause-reads
returns-in_err-invariant-clause-reads g c = exits _ _ _ _ c.from_residual.ensures.1 (first_stops c.in_err-invariant.ensures.reads)

pub returns-in_err-block-clause-reads : goal.returns-in_err-block-clause-reads
returns-in_err-block-clause-reads g c = exits _ _ _ _ c.from_residual-in_err-block.ensures.1 (c.in_ok-invariant.ensures.reads ▹ c.in_err-block.ensures.reads)

pub returns-clause-reads : goal.returns-clause-reads
returns-clause-reads g c = c.in_ok-invariant.ensures.reads ▸ c.in_ok-block.ensures.reads
