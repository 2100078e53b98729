use Rattle.tu_reader.proofs.Steps.{◌▸◌, ◌▹◌, first_stops, exits}
use Rattle.tu_reader.proofs.Choices.{seen_at, choice_takes, choice_stops}
use Rattle.tu_token.specs.Rules.{body, r-subprogram}
use Rattle.tu_token.specs.declared.class.Class.TheVariants.{WordForward}
use Rattle.tu_parse.proofs.subprograms.forward.Goals as goal

pub returns-in_err-head-clause-reads : goal.returns-in_err-head-clause-reads
returns-in_err-head-clause-reads c = exits _ _ _ _ c.from_residual.ensures.1 (choice_stops (seen_at {k = WordForward} c.requires.seen) (body r-subprogram) (c.skip.ensures.takes ▹ first_stops c.in_err-head.ensures.reads))

pub returns-in_err-import-clause-reads : goal.returns-in_err-import-clause-reads
returns-in_err-import-clause-reads c = exits _ _ _ _ c.from_residual-in_err-import.ensures.1 (choice_stops (seen_at {k = WordForward} c.requires.seen) (body r-subprogram) (c.skip.ensures.takes ▹ c.in_ok-head.ensures.reads ▹ c.in_err-import.ensures.reads))

pub returns-clause-reads : goal.returns-clause-reads
returns-clause-reads c = rw (c.into_inner-head.ensures, c.new-head.ensures) (choice_takes (seen_at {k = WordForward} c.requires.seen) (body r-subprogram) _ (c.skip.ensures.takes ▸ c.in_ok-head.ensures.reads ▸ c.in_ok-import.ensures.reads))
