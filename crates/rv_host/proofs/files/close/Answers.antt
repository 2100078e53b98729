use Rattle.std.proofs.Common.{sym, ◌∙◌}
use Rattle.rv_host.specs.Slots.{shown}
use Rattle.rv_host.proofs.StreamServices.{close_free, close_served, close_cut, open_when}
use Rattle.rv_host.proofs.files.close.Goals as goal

pub returns-then-is_free-clause-serves : goal.returns-then-is_free-clause-serves
returns-then-is_free-clause-serves g c = λ left eo w events files tells.
    close_free c.args.number left eo _ _ _ w events files tells (sym (c.is_free.ensures.0 c.if-is_free.true) ∙ c.take-stream.ensures.was) c.take-stream.ensures.left

pub returns-in-Ok-clause-serves : goal.returns-in-Ok-clause-serves
returns-in-Ok-clause-serves g c = λ left eo w events files tells.
    close_served c.args.number (shown c.take-stream.result) left eo _ _ _ _ w events files tells c.take-stream.ensures.was
    (open_when _ _ c.is_free.ensures.1 c.if-is_free.false) c.take-stream.ensures.left c.in-Ok.ensures.kept

pub returns-clause-serves : goal.returns-clause-serves
returns-clause-serves g c = λ left eo w events files tells.
    close_cut c.from.result c.args.number (shown c.take-stream.result) left eo _ _ _ w events files tells c.take-stream.ensures.was c.in-Err.ensures.open c.in-Err.ensures.same
