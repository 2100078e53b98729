use Rattle.tu_reader.proofs.Steps.{◌▸◌, ◌▹◌, first_stops, exits}
use Rattle.tu_reader.proofs.Choices.{seen_at, choice_takes, choice_stops}
use Rattle.tu_token.specs.Rules.{body, r-statement}
use Rattle.tu_token.specs.declared.class.Class.TheVariants.{WordCase}
use Rattle.tu_parse.proofs.blocks.BlockReader.case_of.Goals as goal

pub returns-in_err-subject-clause-reads : goal.returns-in_err-subject-clause-reads
returns-in_err-subject-clause-reads g c = exits _ _ _ _ c.from_residual.ensures.1 (choice_stops (seen_at {k = WordCase} c.requires.seen) (body r-statement) (c.skip.ensures.takes ▹ first_stops c.in_err-subject.ensures.reads))

pub returns-in_err-expect-clause-reads : goal.returns-in_err-expect-clause-reads
returns-in_err-expect-clause-reads g c = exits _ _ _ _ c.from_residual-in_err-expect.ensures.1 (choice_stops (seen_at {k = WordCase} c.requires.seen) (body r-statement) (c.skip.ensures.takes ▹ c.in_ok-subject.ensures.reads ▹ first_stops c.in_err-expect.ensures.reads))

pub returns-in_err-arms-clause-reads : goal.returns-in_err-arms-clause-reads
returns-in_err-arms-clause-reads g c = exits _ _ _ _ c.from_residual-in_err-arms.ensures.1 (choice_stops (seen_at {k = WordCase} c.requires.seen) (body r-statement) (c.skip.ensures.takes ▹ c.in_ok-subject.ensures.reads ▹ c.in_ok-expect.ensures.reads ▹ c.in_err-arms.ensures.reads))

pub returns-clause-reads : goal.returns-clause-reads
returns-clause-reads g c = rw (c.in_ok-subject-2.ensures) (choice_takes (seen_at {k = WordCase} c.requires.seen) (body r-statement) _ (c.skip.ensures.takes ▸ c.in_ok-subject.ensures.reads ▸ c.in_ok-expect.ensures.reads ▸ c.in_ok-arms.ensures.reads))
