use Rattle.std.proofs.Common.{arith, refl}
use Rattle.tu_reader.proofs.Steps.{◌▸◌, ◌▹◌, exits}
use Rattle.tu_token.specs.Rules.{r-expr}
use Rattle.tu_types_reader.proofs.Spans.{span_takes, span_stops, span_stops_behind, name_takes, name_stops, name_weight}
use Rattle.tu_types_reader.proofs.NamePlaces.{mark_read}
use Rattle.tu_types_reader.proofs.bounds.range_form.Goals as goal

pub returns-in_err-from-clause-reads : goal.returns-in_err-from-clause-reads
returns-in_err-from-clause-reads c = exits _ _ _ _ c.from_residual.ensures.1 (span_stops c.in_err-from.ensures.reads)

pub returns-in_err-to-clause-reads : goal.returns-in_err-to-clause-reads
returns-in_err-to-clause-reads c = exits _ _ _ _ c.from_residual-in_err-to.ensures.1 (span_stops_behind c.in_ok-from.ensures.reads c.if-sees.ensures (c.skip.ensures.takes ▹ c.in_err-to.ensures.reads))

pub returns-then-sees-clause-reads : goal.returns-then-sees-clause-reads
returns-then-sees-clause-reads c = rw (c.in_ok-from-2.ensures, c.in_ok-to-2.ensures) (span_takes refl c.in_ok-from.ensures.reads (c.skip.ensures.takes ▸ c.in_ok-to.ensures.reads))

pub returns-in_err-name-clause-reads : goal.returns-in_err-name-clause-reads
returns-in_err-name-clause-reads c = exits _ _ _ _ c.from_residual-in_err-name.ensures.1 (name_stops _ c.in_ok-from.ensures.reads c.if-sees.ensures c.in_err-name.ensures)

pub returns-clause-reads : goal.returns-clause-reads
returns-clause-reads c = name_takes c.in_ok-from.ensures.reads c.if-sees.ensures c.in_ok-name.ensures

pub shortened-requires : goal.shortened-requires
shortened-requires c = rw (mark_read {n = r-expr} refl c.in_ok-from.ensures.reads) (omega arith)

pub returns-clause-less : goal.returns-clause-less
returns-clause-less c = name_weight c.in_ok-from.ensures.reads c.in_ok-name.ensures
