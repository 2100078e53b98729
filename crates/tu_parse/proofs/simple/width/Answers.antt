use Rattle.std.proofs.Common.{refl}
use Rattle.tu_reader.proofs.Steps.{◌▸◌, ◌▹◌, left_takes, none_takes, left_stops, exits}
use Rattle.tu_parse.proofs.simple.width.Goals as goal

pub returns-in_err-width-clause-reads : goal.returns-in_err-width-clause-reads
returns-in_err-width-clause-reads c = exits _ _ _ _ c.from_residual.ensures.1 (left_stops c.if-eat.ensures.eats.0 (c.if-eat.ensures.eats.1 ▹ c.in_err-width.ensures.reads))

pub returns-then-eat-clause-reads : goal.returns-then-eat-clause-reads
returns-then-eat-clause-reads c = rw (c.in_ok-new.ensures) (left_takes refl (c.if-eat.ensures.eats.1 ▸ c.in_ok-width.ensures.reads))

pub returns-clause-reads : goal.returns-clause-reads
returns-clause-reads c = none_takes c.if-eat.ensures.eats.0 c.if-eat.ensures.eats.1
