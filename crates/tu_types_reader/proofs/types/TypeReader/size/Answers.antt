use Rattle.std.proofs.Common.{refl}
use Rattle.tu_reader.proofs.Steps.{◌▸◌, ◌▹◌, first_stops, left_takes, right_takes, none_takes, left_stops, spot_takes, exits, otherwise_stops}
use Rattle.tu_types_reader.proofs.types.TypeReader.size.Goals as goal

pub returns-clause-reads : goal.returns-clause-reads
returns-clause-reads g c = none_takes c.if-eat.ensures.eats.0 c.if-eat.ensures.eats.1

pub returns-in_err-expect-clause-reads : goal.returns-in_err-expect-clause-reads
returns-in_err-expect-clause-reads g c = exits _ _ _ _ c.from_residual.ensures.1 (left_stops c.if-eat.ensures.eats.0 (c.if-eat.ensures.eats.1 ▹ (right_takes refl refl (spot_takes refl c.spot-star.ensures c.skip.ensures.takes) ▹ c.in_err-expect.ensures.reads)))

pub returns-then-sees-clause-reads : goal.returns-then-sees-clause-reads
returns-then-sees-clause-reads g c = left_takes refl (c.if-eat.ensures.eats.1 ▸ (right_takes refl refl (spot_takes refl c.spot-star.ensures c.skip.ensures.takes) ▸ c.in_ok-expect.ensures.reads))

pub returns-in_err-most-clause-reads : goal.returns-in_err-most-clause-reads
returns-in_err-most-clause-reads g c = exits _ _ _ _ c.from_residual-in_err-most.ensures.1 (left_stops c.if-eat.ensures.eats.0 (c.if-eat.ensures.eats.1 ▹ first_stops (otherwise_stops refl refl c.if-sees.ensures c.in_err-most.ensures.reads)))

pub returns-in_err-expect-2-clause-reads : goal.returns-in_err-expect-2-clause-reads
returns-in_err-expect-2-clause-reads g c = exits _ _ _ _ c.from_residual-in_err-expect-2.ensures.1 (left_stops c.if-eat.ensures.eats.0 (c.if-eat.ensures.eats.1 ▹ (left_takes refl c.in_ok-most.ensures.reads ▹ c.in_err-expect-2.ensures.reads)))

pub returns-then-eat-clause-reads : goal.returns-then-eat-clause-reads
returns-then-eat-clause-reads g c = rw c.in_ok-most-2.ensures (left_takes refl (c.if-eat.ensures.eats.1 ▸ (left_takes refl c.in_ok-most.ensures.reads ▸ c.in_ok-expect-2.ensures.reads)))
