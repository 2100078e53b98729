use Rattle.std.proofs.Common.{refl}
use Rattle.tu_reader.proofs.Steps.{◌▸◌, ◌▹◌, first_stops, rule_takes, rule_stops, exits}
use Rattle.tu_parse.proofs.simple.shown.Goals as goal

pub returns-in_err-value-clause-reads : goal.returns-in_err-value-clause-reads
returns-in_err-value-clause-reads c = exits _ _ _ _ c.from_residual.ensures.1 (rule_stops c.mark-at.ensures.marks (first_stops c.in_err-value.ensures.reads))

pub returns-in_err-width-clause-reads : goal.returns-in_err-width-clause-reads
returns-in_err-width-clause-reads c = exits _ _ _ _ c.from_residual-in_err-width.ensures.1 (rule_stops c.mark-at.ensures.marks (c.in_ok-value.ensures.reads ▹ c.in_err-width.ensures.reads))

pub returns-clause-reads : goal.returns-clause-reads
returns-clause-reads c = rw (c.in_ok-value-2.ensures) (rule_takes refl c.mark-at.ensures.marks (c.in_ok-value.ensures.reads ▸ c.in_ok-width.ensures.reads))
