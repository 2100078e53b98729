use Rattle.std.proofs.Common.{refl}
use Rattle.tu_reader.proofs.Steps.{◌▸◌, ◌▹◌, left_takes, none_takes, left_stops, exits}
use Rattle.tu_reader.proofs.Choices.{seen_at, choice_takes, choice_stops}
use Rattle.tu_token.specs.Rules.{body, r-statement}
use Rattle.tu_token.specs.declared.class.Class.TheVariants.{WordQuit}
use Rattle.tu_parse.proofs.simple.quit.Goals as goal

pub returns-in_err-number-clause-reads : goal.returns-in_err-number-clause-reads
returns-in_err-number-clause-reads c = exits _ _ _ _ c.from_residual.ensures.1 (choice_stops (seen_at {k = WordQuit} c.requires.seen) (body r-statement) (c.skip.ensures.takes ▹ left_stops c.if-eat.ensures.eats.0 (c.if-eat.ensures.eats.1 ▹ c.in_err-number.ensures.reads)))

pub returns-then-eat-clause-reads : goal.returns-then-eat-clause-reads
returns-then-eat-clause-reads c = rw c.in_ok-new.ensures (choice_takes (seen_at {k = WordQuit} c.requires.seen) (body r-statement) _ (c.skip.ensures.takes ▸ left_takes refl (c.if-eat.ensures.eats.1 ▸ c.in_ok-number.ensures.reads)))

pub returns-clause-reads : goal.returns-clause-reads
returns-clause-reads c = choice_takes (seen_at {k = WordQuit} c.requires.seen) (body r-statement) _ (c.skip.ensures.takes ▸ none_takes c.if-eat.ensures.eats.0 c.if-eat.ensures.eats.1)
