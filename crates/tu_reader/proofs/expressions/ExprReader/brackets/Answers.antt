use Rattle.tu_token.specs.declared.class.Class.TheVariants.{SignLeftBracket}
use Rattle.tu_reader.proofs.Steps.{◌▸◌, ◌▹◌, first_stops, exits}
use Rattle.tu_reader.proofs.Choices.{seen_at, choice_takes, choice_stops}
use Rattle.tu_token.specs.Rules.{body, r-primary}
use Rattle.tu_reader.proofs.expressions.ExprReader.brackets.Goals as goal

pub returns-in_err-inner-clause-reads : goal.returns-in_err-inner-clause-reads
returns-in_err-inner-clause-reads g c = exits _ _ _ _ c.from_residual.ensures.1 (choice_stops (seen_at {k = SignLeftBracket} c.requires.seen) (body r-primary) (c.skip.ensures.takes ▹ first_stops c.in_err-inner.ensures.reads))

pub returns-in_err-expect-clause-reads : goal.returns-in_err-expect-clause-reads
returns-in_err-expect-clause-reads g c = exits _ _ _ _ c.from_residual-in_err-expect.ensures.1 (choice_stops (seen_at {k = SignLeftBracket} c.requires.seen) (body r-primary) (c.skip.ensures.takes ▹ c.in_ok-inner.ensures.reads ▹ c.in_err-expect.ensures.reads))

pub returns-clause-reads : goal.returns-clause-reads
returns-clause-reads g c = rw (c.in_ok-inner-2.ensures) (choice_takes (seen_at {k = SignLeftBracket} c.requires.seen) (body r-primary) _ (c.skip.ensures.takes ▸ c.in_ok-inner.ensures.reads ▸ c.in_ok-expect.ensures.reads))
