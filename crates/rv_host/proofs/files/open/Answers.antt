use Rattle.rv_host.proofs.StreamServices.{open_cut}
use Rattle.rv_host.proofs.files.open.Goals as goal

pub returns-in-Err-clause-serves : goal.returns-in-Err-clause-serves
returns-in-Err-clause-serves g c = λ left eo w events files tells.
    open_cut c.in-Err.error c.args.name.now c.args.mode left eo _ _ _ w events files tells c.in-Err.ensures.same
