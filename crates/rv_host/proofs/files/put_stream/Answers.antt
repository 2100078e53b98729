use Rattle.rv_host.proofs.Telling.{comes_served}
use Rattle.rv_host.proofs.StreamServices.{put_comes, put_cut}
use Rattle.rv_host.proofs.files.put_stream.Goals as goal

pub returns-in-Ok-clause-serves : goal.returns-in-Ok-clause-serves
returns-in-Ok-clause-serves c = λ left eo fo.
    comes_served _ c.in-Ok.answer _ _ left eo fo (put_comes c.args.number c.args.bytes.now c.in-Ok.answer _ _ c.in-Ok.ensures.answer c.in-Ok.ensures.put)

pub returns-in-Err-clause-serves : goal.returns-in-Err-clause-serves
returns-in-Err-clause-serves c = λ left eo fo w events files tells.
    put_cut c.from.result c.args.number c.args.bytes.now left eo fo _ w events files tells c.in-Err.ensures.open
