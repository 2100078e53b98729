use Rattle.std.proofs.Common.{refl}
use Rattle.tu_reader.proofs.Steps.{◌▸◌, ◌▹◌, first_stops, exits}
use Rattle.tu_reader.proofs.Choices.{is_at, end_stops}
use Rattle.tu_reader.proofs.Operators.{relation_stops, relation_takes, not_in_takes}
use Rattle.tu_reader.proofs.operator.relation_kind.Goals as goal

pub returns-in_default-clause-reads : goal.returns-in_default-clause-reads
returns-in_default-clause-reads c = end_stops refl c.in_default.ensures

pub returns-in_err-expect-in-None-clause-reads : goal.returns-in_err-expect-in-None-clause-reads
returns-in_err-expect-in-None-clause-reads c = exits _ _ _ _ c.from_residual.ensures.1 (relation_stops c.in-Some.class c.in-None.ensures (is_at c.in-Some.ensures refl) (first_stops c.in_err-expect-in-None.ensures.reads))

pub returns-in_err-expect-in-None-2-clause-reads : goal.returns-in_err-expect-in-None-2-clause-reads
returns-in_err-expect-in-None-2-clause-reads c = exits _ _ _ _ c.from_residual-in_err-expect-in-None-2.ensures.1 (relation_stops c.in-Some.class c.in-None.ensures (is_at c.in-Some.ensures refl) (c.in_ok-expect-in-None.ensures.reads ▹ c.in_err-expect-in-None-2.ensures.reads))

pub returns-in-Some-relation_of-clause-reads : goal.returns-in-Some-relation_of-clause-reads
returns-in-Some-relation_of-clause-reads c = relation_takes c.in-Some.class c.in-Some-relation_of.ensures (is_at c.in-Some.ensures refl) c.skip.ensures.takes

pub returns-in_ok-expect-in-None-2-clause-reads : goal.returns-in_ok-expect-in-None-2-clause-reads
returns-in_ok-expect-in-None-2-clause-reads c = not_in_takes c.in-Some.class c.in-None.ensures (is_at c.in-Some.ensures refl) (c.in_ok-expect-in-None.ensures.reads ▸ c.in_ok-expect-in-None-2.ensures.reads)
