use Rattle.tu_reader.proofs.Steps.{◌▸◌, ◌▹◌, exits}
use Rattle.tu_reader.proofs.Choices.{seen_at, choice_takes, choice_stops}
use Rattle.tu_token.specs.Rules.{body, r-base}
use Rattle.tu_token.specs.declared.class.Class.TheVariants.{WordString}
use Rattle.tu_types_reader.proofs.types.TypeReader.string.Goals as goal

pub returns-in_err-size-clause-reads : goal.returns-in_err-size-clause-reads
returns-in_err-size-clause-reads g c = exits _ _ _ _ c.from_residual.ensures.1 (choice_stops (seen_at {k = WordString} c.requires.seen) (body r-base) (c.skip.ensures.takes ▹ c.in_err-size.ensures.reads))

pub returns-clause-reads : goal.returns-clause-reads
returns-clause-reads g c = choice_takes (seen_at {k = WordString} c.requires.seen) (body r-base) _ (c.skip.ensures.takes ▸ c.in_ok-size.ensures.reads)
