use Rattle.tu_reader.proofs.Steps.{◌▸◌, ◌▹◌, first_stops, exits}
use Rattle.tu_parse.proofs.simple.named_mode.Goals as goal

pub returns-in_err-name-clause-reads : goal.returns-in_err-name-clause-reads
returns-in_err-name-clause-reads c = exits _ _ _ _ c.from_residual.ensures.1 (first_stops c.in_err-name.ensures.reads)

pub returns-in_err-expect-clause-reads : goal.returns-in_err-expect-clause-reads
returns-in_err-expect-clause-reads c = exits _ _ _ _ c.from_residual-in_err-expect.ensures.1 (c.in_ok-name.ensures.reads ▹ first_stops c.in_err-expect.ensures.reads)

pub returns-in_err-mode-clause-reads : goal.returns-in_err-mode-clause-reads
returns-in_err-mode-clause-reads c = exits _ _ _ _ c.from_residual-in_err-mode.ensures.1 (c.in_ok-name.ensures.reads ▹ c.in_ok-expect.ensures.reads ▹ c.in_err-mode.ensures.reads)

pub returns-clause-reads : goal.returns-clause-reads
returns-clause-reads c = rw (c.in_ok-name-2.ensures) (c.in_ok-name.ensures.reads ▸ c.in_ok-expect.ensures.reads ▸ c.in_ok-mode.ensures.reads)
