use Rattle.tu_reader.proofs.Steps.{◌▸◌, ◌▹◌, first_stops, exits}
use Rattle.tu_reader.proofs.Choices.{seen_at, choice_takes, choice_stops}
use Rattle.tu_token.specs.declared.class.Class.TheVariants.{WordGet}
use Rattle.tu_token.specs.Rules.{body, r-statement}
use Rattle.tu_parse.proofs.simple.get.Goals as goal

pub returns-in_err-stream-clause-reads : goal.returns-in_err-stream-clause-reads
returns-in_err-stream-clause-reads c = exits _ _ _ _ c.from_residual.ensures.1 (choice_stops (seen_at {k = WordGet} c.requires.seen) (body r-statement) (c.skip.ensures.takes ▹ first_stops c.in_err-stream.ensures.reads))

pub returns-in_err-first-clause-reads : goal.returns-in_err-first-clause-reads
returns-in_err-first-clause-reads c = exits _ _ _ _ c.from_residual-in_err-first.ensures.1 (choice_stops (seen_at {k = WordGet} c.requires.seen) (body r-statement) (c.skip.ensures.takes ▹ c.in_ok-stream.ensures.reads ▹ c.in_err-first.ensures.reads))

pub returns-clause-reads : goal.returns-clause-reads
returns-clause-reads c = choice_takes (seen_at {k = WordGet} c.requires.seen) (body r-statement) _ (c.skip.ensures.takes ▸ c.in_ok-stream.ensures.reads ▸ c.in_ok-first.ensures.reads)
