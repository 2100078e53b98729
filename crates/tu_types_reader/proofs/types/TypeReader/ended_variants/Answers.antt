use Rattle.tu_reader.proofs.Steps.{◌▸◌, ◌▹◌, first_stops, exits}
use Rattle.tu_types_reader.proofs.types.TypeReader.ended_variants.Goals as goal

pub returns-in_err-expect-clause-reads : goal.returns-in_err-expect-clause-reads
returns-in_err-expect-clause-reads g c = exits _ _ _ _ c.from_residual.ensures.1 (first_stops c.in_err-expect.ensures.reads)

pub returns-in_err-variants-clause-reads : goal.returns-in_err-variants-clause-reads
returns-in_err-variants-clause-reads g c = exits _ _ _ _ c.from_residual-in_err-variants.ensures.1 (c.in_ok-expect.ensures.reads ▹ first_stops c.in_err-variants.ensures.reads)

pub returns-in_err-end-clause-reads : goal.returns-in_err-end-clause-reads
returns-in_err-end-clause-reads g c = exits _ _ _ _ c.from_residual-in_err-end.ensures.1 (c.in_ok-expect.ensures.reads ▹ c.in_ok-variants.ensures.reads ▹ c.in_err-end.ensures.reads)

pub returns-clause-reads : goal.returns-clause-reads
returns-clause-reads g c = c.in_ok-expect.ensures.reads ▸ c.in_ok-variants.ensures.reads ▸ c.in_ok-end.ensures.reads
