use Rattle.tu_reader.proofs.Steps.{◌▸◌, ◌▹◌, first_stops, exits}
use Rattle.tu_reader.proofs.Choices.{seen_at, choice_takes, choice_stops}
use Rattle.tu_token.specs.Rules.{body, r-statement}
use Rattle.tu_token.specs.declared.class.Class.TheVariants.{WordOpen}
use Rattle.tu_parse.proofs.simple.opening.Goals as goal

pub returns-in_err-expect-clause-reads : goal.returns-in_err-expect-clause-reads
returns-in_err-expect-clause-reads c = exits _ _ _ _ c.from_residual.ensures.1 (choice_stops (seen_at {k = WordOpen} c.requires.seen) (body r-statement) (c.skip.ensures.takes ▹ first_stops c.in_err-expect.ensures.reads))

pub returns-in_err-path-clause-reads : goal.returns-in_err-path-clause-reads
returns-in_err-path-clause-reads c = exits _ _ _ _ c.from_residual-in_err-path.ensures.1 (choice_stops (seen_at {k = WordOpen} c.requires.seen) (body r-statement) (c.skip.ensures.takes ▹ c.in_ok-expect.ensures.reads ▹ first_stops c.in_err-path.ensures.reads))

pub returns-in_err-expect-2-clause-reads : goal.returns-in_err-expect-2-clause-reads
returns-in_err-expect-2-clause-reads c = exits _ _ _ _ c.from_residual-in_err-expect-2.ensures.1 (choice_stops (seen_at {k = WordOpen} c.requires.seen) (body r-statement) (c.skip.ensures.takes ▹ c.in_ok-expect.ensures.reads ▹ c.in_ok-path.ensures.reads ▹ first_stops c.in_err-expect-2.ensures.reads))

pub returns-in_err-name-clause-reads : goal.returns-in_err-name-clause-reads
returns-in_err-name-clause-reads c = exits _ _ _ _ c.from_residual-in_err-name.ensures.1 (choice_stops (seen_at {k = WordOpen} c.requires.seen) (body r-statement) (c.skip.ensures.takes ▹ c.in_ok-expect.ensures.reads ▹ c.in_ok-path.ensures.reads ▹ c.in_ok-expect-2.ensures.reads ▹ c.in_err-name.ensures.reads))

pub returns-clause-reads : goal.returns-clause-reads
returns-clause-reads c = choice_takes (seen_at {k = WordOpen} c.requires.seen) (body r-statement) _ (c.skip.ensures.takes ▸ c.in_ok-expect.ensures.reads ▸ c.in_ok-path.ensures.reads ▸ c.in_ok-expect-2.ensures.reads ▸ c.in_ok-name.ensures.reads)
