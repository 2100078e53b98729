use Rattle.tu_reader.proofs.Steps.{exits}
use Rattle.tu_types_reader.proofs.types.TypeReader.add_label.Goals as goal

pub returns-in_err-label-clause-adds : goal.returns-in_err-label-clause-adds
returns-in_err-label-clause-adds g c = exits _ _ _ _ c.from_residual.ensures.1 c.in_err-label.ensures.reads

pub returns-clause-adds : goal.returns-clause-adds
returns-clause-adds g c = (c.in_ok-label.label, c.in_ok-push.ensures.ok, c.in_ok-label.ensures.reads)
