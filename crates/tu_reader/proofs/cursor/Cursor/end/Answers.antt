use Rattle.tu_reader.proofs.Steps.{◌▸◌, ◌▹◌, first_stops, exits}
use Rattle.tu_reader.proofs.cursor.Cursor.end.Goals as goal

pub returns-in_err-expect-clause-reads : goal.returns-in_err-expect-clause-reads
returns-in_err-expect-clause-reads c = exits _ _ _ _ c.from_residual.ensures.1 (first_stops c.in_err-expect.ensures.reads)

pub returns-in_err-expect-2-clause-reads : goal.returns-in_err-expect-2-clause-reads
returns-in_err-expect-2-clause-reads c = exits _ _ _ _ c.from_residual-in_err-expect-2.ensures.1 (c.in_ok-expect.ensures.reads ▹ c.in_err-expect-2.ensures.reads)

pub returns-clause-reads : goal.returns-clause-reads
returns-clause-reads c = c.in_ok-expect.ensures.reads ▸ c.in_ok-expect-2.ensures.reads
