use Rattle.rv_host.proofs.StreamServices.{open_asked}
use Rattle.rv_host.proofs.service.serve.Goals as goal

pub returns-in-Open-clause-serves : goal.returns-in-Open-clause-serves
returns-in-Open-clause-serves g c =
    open_asked _ _ c.args.service c.in-Open.at c.in-Open.length c.in-Open.mode c.lent-in-Open.result.now _ _ c.open.result c.requires.waits c.in-Open.is c.lent-in-Open.ensures
    (c.open.ensures.serves _ _)
