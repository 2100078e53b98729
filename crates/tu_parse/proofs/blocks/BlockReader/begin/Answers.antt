use Rattle.tu_reader.proofs.Steps.{◌▸◌, ◌▹◌, first_stops, exits}
use Rattle.tu_reader.proofs.Choices.{seen_at, choice_takes, choice_stops}
use Rattle.tu_token.specs.Rules.{body, r-statement}
use Rattle.tu_token.specs.declared.class.Class.TheVariants.{WordBegin}
use Rattle.tu_parse.proofs.blocks.BlockReader.begin.Goals as goal

pub returns-in_err-block-clause-reads : goal.returns-in_err-block-clause-reads
returns-in_err-block-clause-reads g c = exits _ _ _ _ c.from_residual.ensures.1 (choice_stops (seen_at {k = WordBegin} c.requires.seen) (body r-statement) (c.skip.ensures.takes ▹ first_stops c.in_err-block.ensures.reads))

pub returns-in_err-expect-clause-reads : goal.returns-in_err-expect-clause-reads
returns-in_err-expect-clause-reads g c = exits _ _ _ _ c.from_residual-in_err-expect.ensures.1 (choice_stops (seen_at {k = WordBegin} c.requires.seen) (body r-statement) (c.skip.ensures.takes ▹ c.in_ok-block.ensures.reads ▹ c.in_err-expect.ensures.reads))

pub returns-clause-reads : goal.returns-clause-reads
returns-clause-reads g c = choice_takes (seen_at {k = WordBegin} c.requires.seen) (body r-statement) _ (c.skip.ensures.takes ▸ c.in_ok-block.ensures.reads ▸ c.in_ok-expect.ensures.reads)
