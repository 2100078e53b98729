use Rattle.std.proofs.Common.{arith}
use Rattle.rv_host.proofs.Telling.{byte_served, end_served, get_cut}
use Rattle.rv_host.proofs.service.get_console.Goals as goal

pub returns-in-Ok-Some-clause-serves : goal.returns-in-Ok-Some-clause-serves
returns-in-Ok-Some-clause-serves g c = λ fo streams w events files tells.
    byte_served events files w c.in-Ok-Some.byte (omega arith) _ _ _ _ fo streams tells
    (rw c.in-Ok-Some.field-0-is at c.in-Ok-Some.ensures.taken) (rw c.in-Ok-Some.field-0-is at c.in-Ok-Some.ensures.read)

pub returns-in-Ok-None-clause-serves : goal.returns-in-Ok-None-clause-serves
returns-in-Ok-None-clause-serves g c = λ fo streams w events files tells.
    end_served events files w _ _ _ _ fo streams tells
    (rw c.in-Ok-None.field-0-is at c.in-Ok-None.ensures.taken) (rw c.in-Ok-None.field-0-is at c.in-Ok-None.ensures.read)

pub returns-in-Err-clause-serves : goal.returns-in-Err-clause-serves
returns-in-Err-clause-serves g c = λ fo streams w events files tells. get_cut events files w _ _ _ _ fo streams tells c.in-Err.ensures.same_events
