use Rattle.std.proofs.Common.{refl}
use Rattle.tu_reader.proofs.Steps.{◌▸◌, ◌▹◌, first_stops, left_takes, none_takes, left_stops, exits}
use Rattle.tu_parse.proofs.Equal.{equal_takes}
use Rattle.tu_parse.proofs.simple.change.Goals as goal

pub returns-in_err-path-clause-reads : goal.returns-in_err-path-clause-reads
returns-in_err-path-clause-reads c = exits _ _ _ _ c.from_residual.ensures.1 (left_stops c.requires.seen (first_stops c.in_err-path.ensures.reads))

pub returns-in_err-value-clause-reads : goal.returns-in_err-value-clause-reads
returns-in_err-value-clause-reads c = exits _ _ _ _ c.from_residual-in_err-value.ensures.1 (left_stops c.requires.seen (c.in_ok-path.ensures.reads ▹ left_stops c.if-eat.ensures.eats.0 (c.if-eat.ensures.eats.1 ▹ c.in_err-value.ensures.reads)))

pub returns-then-eat-clause-reads : goal.returns-then-eat-clause-reads
returns-then-eat-clause-reads c = rw c.in_ok-new.ensures (left_takes refl (equal_takes c.path-2.view_is c.in_ok-path.ensures.reads ▸ left_takes refl (c.if-eat.ensures.eats.1 ▸ c.in_ok-value.ensures.reads)))

pub returns-clause-reads : goal.returns-clause-reads
returns-clause-reads c = left_takes refl (c.in_ok-path.ensures.reads ▸ none_takes c.if-eat.ensures.eats.0 c.if-eat.ensures.eats.1)
