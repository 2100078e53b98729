use Rattle.rv_host.proofs.Telling.{put_served, put_cut}
use Rattle.rv_host.proofs.service.put_console.Goals as goal

pub returns-in-Ok-clause-serves : goal.returns-in-Ok-clause-serves
returns-in-Ok-clause-serves g c = λ fo streams w events files tells.
    put_served events files w c.args.bytes.now _ _ _ _ fo streams tells c.in-Ok.ensures.left c.in-Ok.ensures.written

pub returns-in-Err-clause-serves : goal.returns-in-Err-clause-serves
returns-in-Err-clause-serves g c = λ fo streams w events files tells.
    put_cut events files w c.args.bytes.now _ _ _ _ fo streams tells c.in-Err.ensures.cut
