use Rattle.tu_reader.proofs.Steps.{exits}
use Rattle.tu_reader.proofs.expressions.ExprReader.add_arg.Goals as goal

pub returns-in_err-arg-clause-adds : goal.returns-in_err-arg-clause-adds
returns-in_err-arg-clause-adds g c = exits _ _ _ _ c.from_residual.ensures.1 c.in_err-arg.ensures.reads

pub returns-clause-adds : goal.returns-clause-adds
returns-clause-adds g c = (c.in_ok-arg.arg, c.in_ok-push.ensures.ok, c.in_ok-arg.ensures.reads)
