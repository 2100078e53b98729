use Rattle.std.proofs.Common.{refl}
use Rattle.tu_reader.proofs.Steps.{◌▸◌, ◌▹◌, first_stops, rule_takes, rule_stops, exits}
use Rattle.tu_types_reader.proofs.declarations.constant.Goals as goal

pub returns-in_err-expect-clause-reads : goal.returns-in_err-expect-clause-reads
returns-in_err-expect-clause-reads c = exits _ _ _ _ c.from_residual.ensures.1 (rule_stops c.mark-at.ensures.marks (first_stops c.in_err-expect.ensures.reads))

pub returns-in_err-name-clause-reads : goal.returns-in_err-name-clause-reads
returns-in_err-name-clause-reads c = exits _ _ _ _ c.from_residual-in_err-name.ensures.1 (rule_stops c.mark-at.ensures.marks (c.in_ok-expect.ensures.reads ▹ first_stops c.in_err-name.ensures.reads))

pub returns-in_err-spec-clause-reads : goal.returns-in_err-spec-clause-reads
returns-in_err-spec-clause-reads c = exits _ _ _ _ c.from_residual-in_err-spec.ensures.1 (rule_stops c.mark-at.ensures.marks (c.in_ok-expect.ensures.reads ▹ c.in_ok-name.ensures.reads ▹ first_stops c.in_err-spec.ensures.reads))

pub returns-in_err-expect-2-clause-reads : goal.returns-in_err-expect-2-clause-reads
returns-in_err-expect-2-clause-reads c = exits _ _ _ _ c.from_residual-in_err-expect-2.ensures.1 (rule_stops c.mark-at.ensures.marks (c.in_ok-expect.ensures.reads ▹ c.in_ok-name.ensures.reads ▹ c.in_ok-spec.ensures.reads ▹ first_stops c.in_err-expect-2.ensures.reads))

pub returns-in_err-start-clause-reads : goal.returns-in_err-start-clause-reads
returns-in_err-start-clause-reads c = exits _ _ _ _ c.from_residual-in_err-start.ensures.1 (rule_stops c.mark-at.ensures.marks (c.in_ok-expect.ensures.reads ▹ c.in_ok-name.ensures.reads ▹ c.in_ok-spec.ensures.reads ▹ c.in_ok-expect-2.ensures.reads ▹ c.in_err-start.ensures.reads))

pub returns-clause-reads : goal.returns-clause-reads
returns-clause-reads c = rw (c.into_inner-spec.ensures, c.new-spec.ensures) (rule_takes refl c.mark-at.ensures.marks (c.in_ok-expect.ensures.reads ▸ c.in_ok-name.ensures.reads ▸ c.in_ok-spec.ensures.reads ▸ c.in_ok-expect-2.ensures.reads ▸ c.in_ok-start.ensures.reads))
