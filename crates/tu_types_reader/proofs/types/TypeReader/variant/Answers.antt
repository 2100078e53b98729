use Rattle.std.proofs.Common.{refl}
use Rattle.tu_reader.proofs.Steps.{◌▸◌, ◌▹◌, first_stops, rule_takes, rule_stops, exits}
use Rattle.tu_types_reader.proofs.Grouping.{takes_together, stops_together, stops_behind}
use Rattle.tu_types_reader.proofs.types.TypeReader.variant.Goals as goal

pub returns-in_err-expect-clause-reads : goal.returns-in_err-expect-clause-reads
returns-in_err-expect-clause-reads g c = exits _ _ _ _ c.from_residual.ensures.1 (rule_stops c.mark-at.ensures.marks (first_stops c.in_err-expect.ensures.reads))

pub returns-in_err-labels-clause-reads : goal.returns-in_err-labels-clause-reads
returns-in_err-labels-clause-reads g c = exits _ _ _ _ c.from_residual-in_err-labels.ensures.1 (rule_stops c.mark-at.ensures.marks (c.in_ok-expect.ensures.reads ▹ stops_together c.in_err-labels.ensures.reads))

pub returns-in_err-fields-clause-reads : goal.returns-in_err-fields-clause-reads
returns-in_err-fields-clause-reads g c = exits _ _ _ _ c.from_residual-in_err-fields.ensures.1 (rule_stops c.mark-at.ensures.marks (c.in_ok-expect.ensures.reads ▹ stops_behind c.in_ok-labels.ensures.reads c.in_err-fields.ensures.reads))

pub returns-clause-reads : goal.returns-clause-reads
returns-clause-reads g c = rule_takes refl c.mark-at.ensures.marks (c.in_ok-expect.ensures.reads ▸ takes_together c.in_ok-labels.ensures.reads c.in_ok-fields.ensures.reads)
