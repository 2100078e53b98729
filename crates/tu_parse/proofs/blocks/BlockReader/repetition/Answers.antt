use Rattle.tu_reader.proofs.Steps.{◌▸◌, ◌▹◌, exits}
use Rattle.tu_reader.proofs.Choices.{seen_at, choice_takes, choice_stops}
use Rattle.tu_token.specs.Rules.{body, r-statement}
use Rattle.tu_token.specs.declared.class.Class.TheVariants.{WordLoop}
use Rattle.tu_parse.proofs.blocks.BlockReader.repetition.Goals as goal

pub returns-in_err-invariant-clause-reads : goal.returns-in_err-invariant-clause-reads
returns-in_err-invariant-clause-reads g c = exits _ _ _ _ c.from_residual.ensures.1 (choice_stops (seen_at {k = WordLoop} c.requires.seen) (body r-statement) (c.skip.ensures.takes ▹ c.in_err-invariant.ensures.reads))

pub returns-clause-reads : goal.returns-clause-reads
returns-clause-reads g c = choice_takes (seen_at {k = WordLoop} c.requires.seen) (body r-statement) _ (c.skip.ensures.takes ▸ c.in_ok-invariant.ensures.reads)
