use Rattle.tu_reader.proofs.Steps.{◌▸◌, ◌▹◌, first_stops, exits}
use Rattle.tu_reader.proofs.Choices.{seen_at, choice_takes, choice_stops}
use Rattle.tu_token.specs.declared.class.Class.TheVariants.{WordDecreasing, WordFor}
use Rattle.tu_token.specs.Rules.{body, r-statement}
use Rattle.tu_types_reader.proofs.Flags.{flag_takes}
use Rattle.tu_parse.proofs.blocks.BlockReader.counted.Goals as goal

pub returns-in_err-name-clause-reads : goal.returns-in_err-name-clause-reads
returns-in_err-name-clause-reads g c = exits _ _ _ _ c.from_residual.ensures.1 (choice_stops (seen_at {k = WordFor} c.requires.seen) (body r-statement) (c.skip.ensures.takes ▹ (flag_takes WordDecreasing c.eat-is_decreasing.result c.eat-is_decreasing.ensures.eats) ▹ first_stops c.in_err-name.ensures.reads))

pub returns-in_err-expect-clause-reads : goal.returns-in_err-expect-clause-reads
returns-in_err-expect-clause-reads g c = exits _ _ _ _ c.from_residual-in_err-expect.ensures.1 (choice_stops (seen_at {k = WordFor} c.requires.seen) (body r-statement) (c.skip.ensures.takes ▹ (flag_takes WordDecreasing c.eat-is_decreasing.result c.eat-is_decreasing.ensures.eats) ▹ c.in_ok-name.ensures.reads ▹ first_stops c.in_err-expect.ensures.reads))

pub returns-in_err-range-clause-reads : goal.returns-in_err-range-clause-reads
returns-in_err-range-clause-reads g c = exits _ _ _ _ c.from_residual-in_err-range.ensures.1 (choice_stops (seen_at {k = WordFor} c.requires.seen) (body r-statement) (c.skip.ensures.takes ▹ (flag_takes WordDecreasing c.eat-is_decreasing.result c.eat-is_decreasing.ensures.eats) ▹ c.in_ok-name.ensures.reads ▹ c.in_ok-expect.ensures.reads ▹ first_stops c.in_err-range.ensures.reads))

pub returns-in_err-invariant-clause-reads : goal.returns-in_err-invariant-clause-reads
returns-in_err-invariant-clause-reads g c = exits _ _ _ _ c.from_residual-in_err-invariant.ensures.1 (choice_stops (seen_at {k = WordFor} c.requires.seen) (body r-statement) (c.skip.ensures.takes ▹ (flag_takes WordDecreasing c.eat-is_decreasing.result c.eat-is_decreasing.ensures.eats) ▹ c.in_ok-name.ensures.reads ▹ c.in_ok-expect.ensures.reads ▹ c.in_ok-range.ensures.reads ▹ c.in_err-invariant.ensures.reads))

pub returns-clause-reads : goal.returns-clause-reads
returns-clause-reads g c = rw (c.into_inner-range.ensures, c.new-range.ensures) (choice_takes (seen_at {k = WordFor} c.requires.seen) (body r-statement) _ (c.skip.ensures.takes ▸ (flag_takes WordDecreasing c.eat-is_decreasing.result c.eat-is_decreasing.ensures.eats) ▸ c.in_ok-name.ensures.reads ▸ c.in_ok-expect.ensures.reads ▸ c.in_ok-range.ensures.reads ▸ c.in_ok-invariant.ensures.reads))
