use Rattle.tu_reader.proofs.Steps.{◌▸◌, ◌▹◌, first_stops, exits}
use Rattle.tu_reader.proofs.Choices.{seen_at, choice_takes, choice_stops}
use Rattle.tu_token.specs.Rules.{body, r-statement}
use Rattle.tu_token.specs.declared.class.Class.TheVariants.{WordNew}
use Rattle.tu_parse.proofs.simple.creation.Goals as goal

pub returns-in_err-collection-clause-reads : goal.returns-in_err-collection-clause-reads
returns-in_err-collection-clause-reads c = exits _ _ _ _ c.from_residual.ensures.1 (choice_stops (seen_at {k = WordNew} c.requires.seen) (body r-statement) (c.skip.ensures.takes ▹ first_stops c.in_err-collection.ensures.reads))

pub returns-in_err-expect-clause-reads : goal.returns-in_err-expect-clause-reads
returns-in_err-expect-clause-reads c = exits _ _ _ _ c.from_residual-in_err-expect.ensures.1 (choice_stops (seen_at {k = WordNew} c.requires.seen) (body r-statement) (c.skip.ensures.takes ▹ c.in_ok-collection.ensures.reads ▹ first_stops c.in_err-expect.ensures.reads))

pub returns-in_err-pointer-clause-reads : goal.returns-in_err-pointer-clause-reads
returns-in_err-pointer-clause-reads c = exits _ _ _ _ c.from_residual-in_err-pointer.ensures.1 (choice_stops (seen_at {k = WordNew} c.requires.seen) (body r-statement) (c.skip.ensures.takes ▹ c.in_ok-collection.ensures.reads ▹ c.in_ok-expect.ensures.reads ▹ c.in_err-pointer.ensures.reads))

pub returns-clause-reads : goal.returns-clause-reads
returns-clause-reads c = choice_takes (seen_at {k = WordNew} c.requires.seen) (body r-statement) _ (c.skip.ensures.takes ▸ c.in_ok-collection.ensures.reads ▸ c.in_ok-expect.ensures.reads ▸ c.in_ok-pointer.ensures.reads)
