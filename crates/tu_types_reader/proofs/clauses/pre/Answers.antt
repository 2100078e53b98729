use Rattle.std.proofs.Common.{refl}
use Rattle.tu_reader.proofs.Steps.{◌▸◌, ◌▹◌, first_stops, spot_takes, spot_stops, exits}
use Rattle.tu_types_reader.proofs.clauses.pre.Goals as goal

pub returns-in_err-expect-clause-reads : goal.returns-in_err-expect-clause-reads
returns-in_err-expect-clause-reads c = exits _ _ _ _ c.from_residual.ensures.1 (spot_stops (first_stops c.in_err-expect.ensures.reads))

pub returns-in_err-condition-clause-reads : goal.returns-in_err-condition-clause-reads
returns-in_err-condition-clause-reads c = exits _ _ _ _ c.from_residual-in_err-condition.ensures.1 (spot_stops (c.in_ok-expect.ensures.reads ▹ c.in_err-condition.ensures.reads))

pub returns-clause-reads : goal.returns-clause-reads
returns-clause-reads c = rw (c.in_ok-condition-2.ensures) (spot_takes refl c.spot-spot.ensures (c.in_ok-expect.ensures.reads ▸ c.in_ok-condition.ensures.reads))
