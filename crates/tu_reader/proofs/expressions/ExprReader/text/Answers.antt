use Rattle.tu_token.specs.declared.class.Class.TheVariants.{Text}
use Rattle.std.proofs.Common.{arith, refl}
use Rattle.tu_reader.proofs.Steps.{◌▸◌, ◌▹◌, first_stops, no_turns, turns_more, turns_stop, turns_end, exits}
use Rattle.tu_reader.proofs.Choices.{seen_at, choice_takes, choice_stops}
use Rattle.tu_token.specs.Rules.{body, r-primary}
use Rattle.tu_reader.proofs.expressions.ExprReader.text.Goals as goal

pub returns-in_err-text-clause-reads : goal.returns-in_err-text-clause-reads
returns-in_err-text-clause-reads g c = exits _ _ _ _ c.from_residual.ensures.1 (choice_stops (seen_at {k = Text} c.requires.seen) (body r-primary) (first_stops c.in_err-text.ensures.reads))

pub loop-tokens-init : goal.loop-tokens-init
loop-tokens-init g c = (no_turns c.new-parts.ensures, omega arith)

pub returns-in_err-part-clause-reads : goal.returns-in_err-part-clause-reads
returns-in_err-part-clause-reads g c = exits _ _ _ _ c.from_residual-in_err-part.ensures.1 (choice_stops (seen_at {k = Text} c.requires.seen) (body r-primary) (c.in_ok-text.ensures.reads ▹ turns_stop refl c.loop-tokens.invariant.0 c.loop-tokens-test.ensures.eats.0 (c.loop-tokens-test.ensures.eats.1 ▹ first_stops c.in_err-part.ensures.reads)))

pub returns-in_err-expect-clause-reads : goal.returns-in_err-expect-clause-reads
returns-in_err-expect-clause-reads g c = exits _ _ _ _ c.from_residual-in_err-expect.ensures.1 (choice_stops (seen_at {k = Text} c.requires.seen) (body r-primary) (c.in_ok-text.ensures.reads ▹ turns_stop refl c.loop-tokens.invariant.0 c.loop-tokens-test.ensures.eats.0 (c.loop-tokens-test.ensures.eats.1 ▹ c.in_ok-part.ensures.reads ▹ c.in_err-expect.ensures.reads)))

pub loop-tokens-preserved : goal.loop-tokens-preserved
loop-tokens-preserved g c = (turns_more c.in_ok-push.ensures.ok refl c.loop-tokens.invariant.0 (c.loop-tokens-test.ensures.eats.1 ▸ (c.in_ok-part.ensures.reads ▸ c.in_ok-expect.ensures.reads)), omega (arith, c.loop-tokens.invariant.1, c.loop-tokens-test.ensures.less, c.in_ok-part.ensures.less, c.in_ok-expect.ensures.less))

pub returns-clause-reads : goal.returns-clause-reads
returns-clause-reads g c = choice_takes (seen_at {k = Text} c.requires.seen) (body r-primary) _ (c.in_ok-text.ensures.reads ▸ turns_end refl c.loop-tokens.invariant.0 c.loop-tokens-test.ensures.eats.0 c.loop-tokens-test.ensures.eats.1)
