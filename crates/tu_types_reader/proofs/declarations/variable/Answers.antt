use Rattle.std.proofs.Common.{refl}
use Rattle.tu_reader.proofs.Steps.{◌▸◌, ◌▹◌, first_stops, rule_takes, rule_stops, exits}
use Rattle.tu_types_reader.proofs.Flags.{variable_is}
use Rattle.tu_types_reader.proofs.declarations.variable.Goals as goal

pub returns-in_err-expect-clause-reads : goal.returns-in_err-expect-clause-reads
returns-in_err-expect-clause-reads c = exits _ _ _ _ c.from_residual.ensures.1 (rule_stops c.mark-at.ensures.marks (first_stops c.in_err-expect.ensures.reads))

pub returns-in_err-names-clause-reads : goal.returns-in_err-names-clause-reads
returns-in_err-names-clause-reads c = exits _ _ _ _ c.from_residual-in_err-names.ensures.1 (rule_stops c.mark-at.ensures.marks (c.in_ok-expect.ensures.reads ▹ first_stops c.in_err-names.ensures.reads))

pub returns-in_err-form-clause-reads : goal.returns-in_err-form-clause-reads
returns-in_err-form-clause-reads c = exits _ _ _ _ c.from_residual-in_err-form.ensures.1 (rule_stops c.mark-at.ensures.marks (c.in_ok-expect.ensures.reads ▹ (c.in_ok-names.ensures.reads ▹ c.in_err-form.ensures.reads)))

pub returns-clause-reads : goal.returns-clause-reads
returns-clause-reads c = rw (variable_is c.in_ok-names.names c.in_ok-form.form) (rule_takes refl c.mark-at.ensures.marks (c.in_ok-expect.ensures.reads ▸ (c.in_ok-names.ensures.reads ▸ c.in_ok-form.ensures.reads)))
