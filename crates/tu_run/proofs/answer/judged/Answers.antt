use Rattle.tu_run.proofs.Making.{not_judged, accepted_judged}
use Rattle.tu_run.proofs.answer.judged.Goals as goal

pub returns-in-Ok : goal.returns-in-Ok
returns-in-Ok c = accepted_judged c.args.source.now c.in-Ok._checked tt c.in-Ok.ensures.accepted

pub returns-in-Err : goal.returns-in-Err
returns-in-Err c = rw c.check_status.ensures (not_judged c.args.source.now c.in-Err.error c.in-Err.ensures.refused)
