use Rattle.tu_run.proofs.Making.{fetched_made, not_made, judged_no_fault}
use Rattle.tu_run.proofs.answer.made_image.Goals as goal

pub returns-in-Ok-clause-makes : goal.returns-in-Ok-clause-makes
returns-in-Ok-clause-makes g c =
    fetched_made (record { accepted = c.one_answer.ensures.accepted; refused = c.one_answer.ensures.refused; apart = c.one_answer.ensures.apart })
    _ c.args.file.now c.in-Ok.source c.compiled.result c.in-Ok.ensures.fetches c.compiled.ensures

pub returns-in-Ok-clause-fault : goal.returns-in-Ok-clause-fault
returns-in-Ok-clause-fault g c = λ e. absurd (judged_no_fault c.in-Ok.source c.compiled.result c.compiled.ensures.judged e)

pub returns-in-Err-clause-makes : goal.returns-in-Err-clause-makes
returns-in-Err-clause-makes g c =
    not_made (record { accepted = c.one_answer.ensures.accepted; refused = c.one_answer.ensures.refused; apart = c.one_answer.ensures.apart })
    _ c.args.file.now c.in-Err.status c.in-Err.ensures.fetches
