use Rattle.std.proofs.Common.{refl}
use Rattle.tu_reader.proofs.Steps.{◌▸◌, ◌▹◌, left_takes, none_takes, left_stops, exits}
use Rattle.tu_types_reader.proofs.declarations.started.Goals as goal

pub returns-in_err-start-clause-reads : goal.returns-in_err-start-clause-reads
returns-in_err-start-clause-reads c = exits _ _ _ _ c.from_residual.ensures.1 (left_stops c.if-eat.ensures.eats.0 (c.if-eat.ensures.eats.1 ▹ c.in_err-start.ensures.reads))

pub returns-then-eat-clause-reads : goal.returns-then-eat-clause-reads
returns-then-eat-clause-reads c = left_takes refl (c.if-eat.ensures.eats.1 ▸ c.in_ok-start.ensures.reads)

pub returns-clause-reads : goal.returns-clause-reads
returns-clause-reads c = none_takes c.if-eat.ensures.eats.0 c.if-eat.ensures.eats.1
