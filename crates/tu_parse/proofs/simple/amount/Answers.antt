use Rattle.std.proofs.Common.{refl}
use Rattle.tu_reader.proofs.Steps.{◌▸◌, ◌▹◌, left_takes, right_takes, none_takes, left_stops, right_stops, exits}
use Rattle.tu_parse.proofs.simple.amount.Goals as goal

pub returns-then-sees-clause-reads : goal.returns-then-sees-clause-reads
returns-then-sees-clause-reads c = left_takes refl (c.if-eat.ensures.eats.1 ▸ left_takes refl c.skip.ensures.takes)

pub returns-in_err-count-clause-reads : goal.returns-in_err-count-clause-reads
returns-in_err-count-clause-reads c = exits _ _ _ _ c.from_residual.ensures.1 (left_stops c.if-eat.ensures.eats.0 (c.if-eat.ensures.eats.1 ▹ right_stops c.if-sees.ensures c.in_err-count.ensures.reads))

pub returns-then-eat-clause-reads : goal.returns-then-eat-clause-reads
returns-then-eat-clause-reads c = rw c.in_ok-new.ensures (left_takes refl (c.if-eat.ensures.eats.1 ▸ right_takes refl refl c.in_ok-count.ensures.reads))

pub returns-clause-reads : goal.returns-clause-reads
returns-clause-reads c = none_takes c.if-eat.ensures.eats.0 c.if-eat.ensures.eats.1
