use Rattle.std.proofs.Common.{refl}
use Rattle.tu_reader.proofs.Steps.{left_takes, right_takes, right_stops, exits}
use Rattle.tu_parse.proofs.subprograms.kind.Goals as goal

pub returns-then-sees-clause-reads : goal.returns-then-sees-clause-reads
returns-then-sees-clause-reads c = left_takes refl c.skip.ensures.takes

pub returns-in_err-expect-clause-reads : goal.returns-in_err-expect-clause-reads
returns-in_err-expect-clause-reads c = exits _ _ _ _ c.from_residual.ensures.1 (right_stops c.if-sees.ensures c.in_err-expect.ensures.reads)

pub returns-clause-reads : goal.returns-clause-reads
returns-clause-reads c = right_takes refl refl c.in_ok-expect.ensures.reads
