use Rattle.std.proofs.Common.{refl}
use Rattle.tu_reader.proofs.Steps.{◌▸◌, ◌▹◌, first_stops, rule_takes, rule_stops, exits}
use Rattle.tu_parse.proofs.programs.module.Goals as goal

pub returns-in_err-expect-clause-reads : goal.returns-in_err-expect-clause-reads
returns-in_err-expect-clause-reads c = exits _ _ _ _ c.from_residual.ensures.1 (rule_stops c.mark-at.ensures.marks (first_stops c.in_err-expect.ensures.reads))

pub returns-in_err-name-clause-reads : goal.returns-in_err-name-clause-reads
returns-in_err-name-clause-reads c = exits _ _ _ _ c.from_residual-in_err-name.ensures.1 (rule_stops c.mark-at.ensures.marks (c.in_ok-expect.ensures.reads ▹ first_stops c.in_err-name.ensures.reads))

pub returns-in_err-import-clause-reads : goal.returns-in_err-import-clause-reads
returns-in_err-import-clause-reads c = exits _ _ _ _ c.from_residual-in_err-import.ensures.1 (rule_stops c.mark-at.ensures.marks (c.in_ok-expect.ensures.reads ▹ c.in_ok-name.ensures.reads ▹ first_stops c.in_err-import.ensures.reads))

pub returns-in_err-export-clause-reads : goal.returns-in_err-export-clause-reads
returns-in_err-export-clause-reads c = exits _ _ _ _ c.from_residual-in_err-export.ensures.1 (rule_stops c.mark-at.ensures.marks (c.in_ok-expect.ensures.reads ▹ c.in_ok-name.ensures.reads ▹ c.in_ok-import.ensures.reads ▹ c.in_err-export.ensures.reads))

pub returns-clause-reads : goal.returns-clause-reads
returns-clause-reads c = rule_takes refl c.mark-at.ensures.marks (c.in_ok-expect.ensures.reads ▸ c.in_ok-name.ensures.reads ▸ c.in_ok-import.ensures.reads ▸ c.in_ok-export.ensures.reads)
