use Rattle.tu_run.proofs.Making.{fetched_judged, not_fetched, judged_no_fault}
use Rattle.tu_run.proofs.answer.check_file.Goals as goal

pub returns-in-Ok-clause-reads : goal.returns-in-Ok-clause-reads
returns-in-Ok-clause-reads g c =
    fetched_judged (record { accepted = c.one_answer.ensures.accepted; refused = c.one_answer.ensures.refused; apart = c.one_answer.ensures.apart })
    _ c.args.file.now c.in-Ok.source c.judged.result c.in-Ok.ensures.fetches c.judged.ensures

pub returns-in-Ok-clause-fault : goal.returns-in-Ok-clause-fault
returns-in-Ok-clause-fault g c = λ e. absurd (judged_no_fault c.in-Ok.source c.judged.result c.judged.ensures e)

pub returns-in-Err-clause-reads : goal.returns-in-Err-clause-reads
returns-in-Err-clause-reads g c =
    not_fetched (record { accepted = c.one_answer.ensures.accepted; refused = c.one_answer.ensures.refused; apart = c.one_answer.ensures.apart })
    _ c.args.file.now c.in-Err.status c.in-Err.ensures.fetches
