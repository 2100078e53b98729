use Rattle.rv_host.proofs.StreamServices.{finish_served, finish_cut}
use Rattle.rv_host.proofs.files.finish.Goals as goal

pub returns-in-Ok-clause-serves : goal.returns-in-Ok-clause-serves
returns-in-Ok-clause-serves g c = λ how stands left eo w events files tells.
    finish_served c.args.reply how stands left eo _ _ c.args.streams.now w events files tells c.in-Ok.ensures.kept

pub returns-in-Err-clause-serves : goal.returns-in-Err-clause-serves
returns-in-Err-clause-serves g c = λ how stands left eo w events files tells.
    finish_cut c.from.result how left eo _ _ c.args.streams.now w events files tells c.in-Err.ensures.part c.in-Err.ensures.open
