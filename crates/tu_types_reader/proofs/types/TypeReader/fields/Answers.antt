use Rattle.tu_reader.proofs.Steps.{◌▸◌, ◌▹◌, first_stops, exits}
use Rattle.tu_reader.proofs.Choices.{seen_at, choice_takes, choice_stops}
use Rattle.tu_token.specs.Rules.{body, r-base}
use Rattle.tu_token.specs.declared.class.Class.TheVariants.{WordRecord}
use Rattle.tu_types_reader.proofs.types.TypeReader.fields.Goals as goal

pub returns-in_err-first-clause-reads : goal.returns-in_err-first-clause-reads
returns-in_err-first-clause-reads g c = exits _ _ _ _ c.from_residual.ensures.1 (choice_stops (seen_at {k = WordRecord} c.requires.seen) (body r-base) (c.skip.ensures.takes ▹ first_stops c.in_err-first.ensures.reads))

pub returns-in_err-more-clause-reads : goal.returns-in_err-more-clause-reads
returns-in_err-more-clause-reads g c = exits _ _ _ _ c.from_residual-in_err-more.ensures.1 (choice_stops (seen_at {k = WordRecord} c.requires.seen) (body r-base) (c.skip.ensures.takes ▹ c.in_ok-first.ensures.reads ▹ first_stops c.in_err-more.ensures.reads))

pub returns-in_err-end-clause-reads : goal.returns-in_err-end-clause-reads
returns-in_err-end-clause-reads g c = exits _ _ _ _ c.from_residual-in_err-end.ensures.1 (choice_stops (seen_at {k = WordRecord} c.requires.seen) (body r-base) (c.skip.ensures.takes ▹ c.in_ok-first.ensures.reads ▹ c.in_ok-more.ensures.reads ▹ c.in_err-end.ensures.reads))

pub returns-clause-reads : goal.returns-clause-reads
returns-clause-reads g c = rw (c.in_ok-first-2.ensures) (choice_takes (seen_at {k = WordRecord} c.requires.seen) (body r-base) _ (c.skip.ensures.takes ▸ c.in_ok-first.ensures.reads ▸ c.in_ok-more.ensures.reads ▸ c.in_ok-end.ensures.reads))
