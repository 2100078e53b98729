use Rattle.tu_run.proofs.Answering.{image_ran, not_loaded}
use Rattle.tu_run.proofs.answer.run_image.Goals as goal

pub returns-in_default-clause-runs : goal.returns-in_default-clause-runs
returns-in_default-clause-runs g c = not_loaded c.args.image c.args.budget _

pub returns-clause-runs : goal.returns-clause-runs
returns-clause-runs g c =
    rw c.count.ensures (image_ran c.in-Ok.machine c.args.image c.args.budget c.run-end.new.machine.count c.run-end.result c.run_status.result _ _
    c.in-Ok.ensures.space c.in-Ok.ensures.cpu c.run_status.ensures c.run-end.ensures.leaves c.run-end.ensures.within c.run-end.ensures.spent)
