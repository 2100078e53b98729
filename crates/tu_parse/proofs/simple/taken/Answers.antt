use Rattle.std.proofs.Common.{refl}
use Rattle.tu_reader.proofs.Steps.{◌▸◌, ◌▹◌, first_stops, rule_takes, rule_stops, exits}
use Rattle.tu_parse.proofs.simple.taken.Goals as goal

pub returns-in_err-path-clause-reads : goal.returns-in_err-path-clause-reads
returns-in_err-path-clause-reads c = exits _ _ _ _ c.from_residual.ensures.1 (rule_stops c.mark-at.ensures.marks (first_stops c.in_err-path.ensures.reads))

pub returns-in_err-amount-clause-reads : goal.returns-in_err-amount-clause-reads
returns-in_err-amount-clause-reads c = exits _ _ _ _ c.from_residual-in_err-amount.ensures.1 (rule_stops c.mark-at.ensures.marks (c.in_ok-path.ensures.reads ▹ c.in_err-amount.ensures.reads))

pub returns-clause-reads : goal.returns-clause-reads
returns-clause-reads c = rule_takes refl c.mark-at.ensures.marks (c.in_ok-path.ensures.reads ▸ c.in_ok-amount.ensures.reads)
