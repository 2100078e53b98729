use Rattle.std.proofs.Common.{refl}
use Rattle.tu_reader.proofs.Steps.{◌▸◌, ◌▹◌, first_stops, left_takes, none_takes, left_stops, exits}
use Rattle.tu_parse.proofs.simple.stream.Goals as goal

pub returns-in_err-stream-clause-reads : goal.returns-in_err-stream-clause-reads
returns-in_err-stream-clause-reads c = exits _ _ _ _ c.from_residual.ensures.1 (left_stops c.if-eat.ensures.eats.0 (c.if-eat.ensures.eats.1 ▹ first_stops c.in_err-stream.ensures.reads))

pub returns-in_err-expect-clause-reads : goal.returns-in_err-expect-clause-reads
returns-in_err-expect-clause-reads c = exits _ _ _ _ c.from_residual-in_err-expect.ensures.1 (left_stops c.if-eat.ensures.eats.0 (c.if-eat.ensures.eats.1 ▹ c.in_ok-stream.ensures.reads ▹ c.in_err-expect.ensures.reads))

pub returns-then-eat-clause-reads : goal.returns-then-eat-clause-reads
returns-then-eat-clause-reads c = rw (c.in_ok-stream-2.ensures) (left_takes refl (c.if-eat.ensures.eats.1 ▸ c.in_ok-stream.ensures.reads ▸ c.in_ok-expect.ensures.reads))

pub returns-clause-reads : goal.returns-clause-reads
returns-clause-reads c = none_takes c.if-eat.ensures.eats.0 c.if-eat.ensures.eats.1
