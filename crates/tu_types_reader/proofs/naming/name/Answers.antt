use Rattle.std.proofs.Common.{refl}
use Rattle.tu_reader.proofs.Steps.{◌▸◌, ◌▹◌, first_stops, rule_takes, rule_stops, exits}
use Rattle.tu_types_reader.proofs.naming.name.Goals as goal

pub returns-in_err-first-clause-reads : goal.returns-in_err-first-clause-reads
returns-in_err-first-clause-reads c = exits _ _ _ _ c.from_residual.ensures.1 (rule_stops c.mark-at.ensures.marks (first_stops c.in_err-first.ensures.reads))

pub returns-in_err-second-clause-reads : goal.returns-in_err-second-clause-reads
returns-in_err-second-clause-reads c = exits _ _ _ _ c.from_residual-in_err-second.ensures.1 (rule_stops c.mark-at.ensures.marks (c.in_ok-first.ensures.reads ▹ c.in_err-second.ensures.reads))

pub returns-clause-reads : goal.returns-clause-reads
returns-clause-reads c = rule_takes refl c.mark-at.ensures.marks (c.in_ok-first.ensures.reads ▸ c.in_ok-second.ensures.reads)
