use Rattle.tu_reader.proofs.Steps.{exits}
use Rattle.tu_parse.proofs.blocks.BlockReader.arms.Goals as goal

pub returns-in_err-otherwise-clause-reads : goal.returns-in_err-otherwise-clause-reads
returns-in_err-otherwise-clause-reads g c = exits _ _ _ _ c.from_residual.ensures.1 c.in_err-otherwise.ensures.reads

pub returns-clause-reads : goal.returns-clause-reads
returns-clause-reads g c = c.in_ok-otherwise.ensures.reads
