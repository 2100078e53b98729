use Rattle.tu_reader.proofs.Steps.{exits}
use Rattle.tu_parse.proofs.programs.boxed_module.Goals as goal

pub returns-in_err-part-clause-reads : goal.returns-in_err-part-clause-reads
returns-in_err-part-clause-reads c = exits _ _ _ _ c.from_residual.ensures.1 c.in_err-part.ensures.reads

pub returns-clause-reads : goal.returns-clause-reads
returns-clause-reads c = rw (c.in_ok-part-2.ensures) c.in_ok-part.ensures.reads
