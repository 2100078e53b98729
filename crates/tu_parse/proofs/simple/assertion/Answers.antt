use Rattle.tu_reader.proofs.Steps.{◌▸◌, ◌▹◌, exits}
use Rattle.tu_reader.proofs.Choices.{seen_at, choice_takes, choice_stops}
use Rattle.tu_token.specs.Rules.{body, r-statement}
use Rattle.tu_token.specs.declared.class.Class.TheVariants.{WordAssert}
use Rattle.tu_parse.proofs.simple.assertion.Goals as goal

pub returns-in_err-condition-clause-reads : goal.returns-in_err-condition-clause-reads
returns-in_err-condition-clause-reads c = exits _ _ _ _ c.from_residual.ensures.1 (choice_stops (seen_at {k = WordAssert} c.requires.seen) (body r-statement) (c.skip.ensures.takes ▹ c.in_err-condition.ensures.reads))

pub returns-clause-reads : goal.returns-clause-reads
returns-clause-reads c = rw (c.in_ok-new.ensures) (choice_takes (seen_at {k = WordAssert} c.requires.seen) (body r-statement) _ (c.skip.ensures.takes ▸ c.in_ok-condition.ensures.reads))
