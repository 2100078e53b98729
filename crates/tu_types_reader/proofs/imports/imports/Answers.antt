use Rattle.std.proofs.Common.{refl}
use Rattle.tu_reader.proofs.Steps.{rule_takes, rule_stops, exits}
use Rattle.tu_types_reader.proofs.imports.imports.Goals as goal

pub returns-in_err-form-clause-reads : goal.returns-in_err-form-clause-reads
returns-in_err-form-clause-reads c = exits _ _ _ _ c.from_residual.ensures.1 (rule_stops c.mark-at.ensures.marks (c.in_err-form.ensures.reads))

pub returns-clause-reads : goal.returns-clause-reads
returns-clause-reads c = rule_takes refl c.mark-at.ensures.marks (c.in_ok-form.ensures.reads)
