use Rattle.tu_reader.proofs.Steps.{◌▸◌, ◌▹◌, first_stops, exits}
use Rattle.tu_reader.proofs.Choices.{seen_at, choice_takes, choice_stops}
use Rattle.tu_token.specs.Rules.{body, r-subprogram}
use Rattle.tu_token.specs.declared.class.Class.TheVariants.{WordBody}
use Rattle.tu_parse.proofs.subprograms.body_alone.Goals as goal

pub returns-in_err-kind-clause-reads : goal.returns-in_err-kind-clause-reads
returns-in_err-kind-clause-reads c = exits _ _ _ _ c.from_residual.ensures.1 (choice_stops (seen_at {k = WordBody} c.requires.seen) (body r-subprogram) (c.skip.ensures.takes ▹ first_stops c.in_err-kind.ensures.reads))

pub returns-in_err-name-clause-reads : goal.returns-in_err-name-clause-reads
returns-in_err-name-clause-reads c = exits _ _ _ _ c.from_residual-in_err-name.ensures.1 (choice_stops (seen_at {k = WordBody} c.requires.seen) (body r-subprogram) (c.skip.ensures.takes ▹ c.in_ok-kind.ensures.reads ▹ first_stops c.in_err-name.ensures.reads))

pub returns-in_err-rest-clause-reads : goal.returns-in_err-rest-clause-reads
returns-in_err-rest-clause-reads c = exits _ _ _ _ c.from_residual-in_err-rest.ensures.1 (choice_stops (seen_at {k = WordBody} c.requires.seen) (body r-subprogram) (c.skip.ensures.takes ▹ c.in_ok-kind.ensures.reads ▹ c.in_ok-name.ensures.reads ▹ c.in_err-rest.ensures.reads))

pub returns-clause-reads : goal.returns-clause-reads
returns-clause-reads c = choice_takes (seen_at {k = WordBody} c.requires.seen) (body r-subprogram) _ (c.skip.ensures.takes ▸ c.in_ok-kind.ensures.reads ▸ c.in_ok-name.ensures.reads ▸ c.in_ok-rest.ensures.reads)
