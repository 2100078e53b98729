use Rattle.tu_reader.proofs.Steps.{◌▸◌, ◌▹◌, first_stops, exits}
use Rattle.tu_reader.proofs.Choices.{seen_at, choice_takes, choice_stops}
use Rattle.tu_token.specs.Rules.{body, r-base}
use Rattle.tu_token.specs.declared.class.Class.TheVariants.{WordEnum}
use Rattle.tu_types_reader.proofs.types.TypeReader.enumeration.Goals as goal

pub returns-in_err-expect-clause-reads : goal.returns-in_err-expect-clause-reads
returns-in_err-expect-clause-reads g c = exits _ _ _ _ c.from_residual.ensures.1 (choice_stops (seen_at {k = WordEnum} c.requires.seen) (body r-base) (c.skip.ensures.takes ▹ first_stops c.in_err-expect.ensures.reads))

pub returns-in_err-names-clause-reads : goal.returns-in_err-names-clause-reads
returns-in_err-names-clause-reads g c = exits _ _ _ _ c.from_residual-in_err-names.ensures.1 (choice_stops (seen_at {k = WordEnum} c.requires.seen) (body r-base) (c.skip.ensures.takes ▹ c.in_ok-expect.ensures.reads ▹ first_stops c.in_err-names.ensures.reads))

pub returns-in_err-expect-2-clause-reads : goal.returns-in_err-expect-2-clause-reads
returns-in_err-expect-2-clause-reads g c = exits _ _ _ _ c.from_residual-in_err-expect-2.ensures.1 (choice_stops (seen_at {k = WordEnum} c.requires.seen) (body r-base) (c.skip.ensures.takes ▹ c.in_ok-expect.ensures.reads ▹ c.in_ok-names.ensures.reads ▹ c.in_err-expect-2.ensures.reads))

pub returns-clause-reads : goal.returns-clause-reads
returns-clause-reads g c = choice_takes (seen_at {k = WordEnum} c.requires.seen) (body r-base) _ (c.skip.ensures.takes ▸ c.in_ok-expect.ensures.reads ▸ c.in_ok-names.ensures.reads ▸ c.in_ok-expect-2.ensures.reads)
