use Rattle.tu_reader.proofs.Steps.{◌▸◌, ◌▹◌, first_stops, exits}
use Rattle.tu_parse.proofs.subprograms.result_type.Goals as goal

pub returns-in_err-result-clause-reads : goal.returns-in_err-result-clause-reads
returns-in_err-result-clause-reads c = exits _ _ _ _ c.from_residual.ensures.1 (first_stops c.in_err-result.ensures.reads)

pub returns-in_err-expect-clause-reads : goal.returns-in_err-expect-clause-reads
returns-in_err-expect-clause-reads c = exits _ _ _ _ c.from_residual-in_err-expect.ensures.1 (c.in_ok-result.ensures.reads ▹ first_stops c.in_err-expect.ensures.reads)

pub returns-in_err-spec-clause-reads : goal.returns-in_err-spec-clause-reads
returns-in_err-spec-clause-reads c = exits _ _ _ _ c.from_residual-in_err-spec.ensures.1 (c.in_ok-result.ensures.reads ▹ c.in_ok-expect.ensures.reads ▹ c.in_err-spec.ensures.reads)

pub returns-clause-reads : goal.returns-clause-reads
returns-clause-reads c = c.in_ok-result.ensures.reads ▸ c.in_ok-expect.ensures.reads ▸ c.in_ok-spec.ensures.reads
