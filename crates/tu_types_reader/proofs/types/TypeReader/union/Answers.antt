use Rattle.tu_reader.proofs.Steps.{◌▸◌, ◌▹◌, first_stops, exits}
use Rattle.tu_reader.proofs.Choices.{seen_at, choice_takes, choice_stops}
use Rattle.tu_token.specs.Rules.{body, r-base}
use Rattle.tu_token.specs.declared.class.Class.TheVariants.{WordUnion}
use Rattle.tu_types_reader.proofs.types.TypeReader.union.Goals as goal

pub returns-in_err-tag-clause-reads : goal.returns-in_err-tag-clause-reads
returns-in_err-tag-clause-reads g c = exits _ _ _ _ c.from_residual.ensures.1 (choice_stops (seen_at {k = WordUnion} c.requires.seen) (body r-base) (c.skip.ensures.takes ▹ first_stops c.in_err-tag.ensures.reads))

pub returns-in_err-expect-clause-reads : goal.returns-in_err-expect-clause-reads
returns-in_err-expect-clause-reads g c = exits _ _ _ _ c.from_residual-in_err-expect.ensures.1 (choice_stops (seen_at {k = WordUnion} c.requires.seen) (body r-base) (c.skip.ensures.takes ▹ c.in_ok-tag.ensures.reads ▹ first_stops c.in_err-expect.ensures.reads))

pub returns-in_err-range-clause-reads : goal.returns-in_err-range-clause-reads
returns-in_err-range-clause-reads g c = exits _ _ _ _ c.from_residual-in_err-range.ensures.1 (choice_stops (seen_at {k = WordUnion} c.requires.seen) (body r-base) (c.skip.ensures.takes ▹ c.in_ok-tag.ensures.reads ▹ c.in_ok-expect.ensures.reads ▹ first_stops c.in_err-range.ensures.reads))

pub returns-in_err-variants-clause-reads : goal.returns-in_err-variants-clause-reads
returns-in_err-variants-clause-reads g c = exits _ _ _ _ c.from_residual-in_err-variants.ensures.1 (choice_stops (seen_at {k = WordUnion} c.requires.seen) (body r-base) (c.skip.ensures.takes ▹ c.in_ok-tag.ensures.reads ▹ c.in_ok-expect.ensures.reads ▹ c.in_ok-range.ensures.reads ▹ c.in_err-variants.ensures.reads))

pub returns-clause-reads : goal.returns-clause-reads
returns-clause-reads g c = rw (c.into_inner-range.ensures, c.new-range.ensures) (choice_takes (seen_at {k = WordUnion} c.requires.seen) (body r-base) _ (c.skip.ensures.takes ▸ c.in_ok-tag.ensures.reads ▸ c.in_ok-expect.ensures.reads ▸ c.in_ok-range.ensures.reads ▸ c.in_ok-variants.ensures.reads))
