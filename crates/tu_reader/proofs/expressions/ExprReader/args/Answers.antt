use Rattle.tu_token.specs.declared.class.Class.TheVariants.{SignRightBracket}
use Rattle.std.proofs.Common.{arith, refl}
use Rattle.tu_reader.proofs.Steps.{◌▸◌, ◌▹◌, first_stops, none_takes, exits, optional_stops}
use Rattle.tu_reader.proofs.Choices.{seen_at, begins_at}
use Rattle.tu_reader.proofs.Lists.{listed_first, listed_more, any_listed_takes, any_listed_stops}
use Rattle.tu_reader.proofs.Tokens.{nothing_taken}
use Rattle.tu_reader.proofs.expressions.ExprReader.args.Goals as goal

pub returns-then-sees-clause-reads : goal.returns-then-sees-clause-reads
returns-then-sees-clause-reads g c = rw c.new-args.ensures (none_takes (begins_at (seen_at {k = SignRightBracket} c.if-sees.ensures) _) (nothing_taken _ _ refl) ▸ c.skip.ensures.takes)

pub returns-in_err-add_arg-clause-reads : goal.returns-in_err-add_arg-clause-reads
returns-in_err-add_arg-clause-reads g c = exits _ _ _ _ c.from_residual.ensures.1 (optional_stops refl refl c.if-sees.ensures (first_stops c.in_err-add_arg.ensures.adds))

pub loop-tokens-init : goal.loop-tokens-init
loop-tokens-init g c = (listed_first c.new-args.ensures c.in_ok-add_arg.ensures.adds.1 c.in_ok-add_arg.ensures.adds.2, omega arith)

pub returns-in_err-add_arg-2-clause-reads : goal.returns-in_err-add_arg-2-clause-reads
returns-in_err-add_arg-2-clause-reads g c = exits _ _ _ _ c.from_residual-in_err-add_arg-2.ensures.1 (first_stops (any_listed_stops refl c.loop-tokens.invariant.0 c.loop-tokens-test.ensures.eats.0 (c.loop-tokens-test.ensures.eats.1 ▹ c.in_err-add_arg-2.ensures.adds)))

pub loop-tokens-preserved : goal.loop-tokens-preserved
loop-tokens-preserved g c = (listed_more c.in_ok-add_arg-2.ensures.adds.1 c.loop-tokens.invariant.0 (c.loop-tokens-test.ensures.eats.1 ▸ c.in_ok-add_arg-2.ensures.adds.2), omega (arith, c.loop-tokens.invariant.1, c.loop-tokens-test.ensures.less, c.in_ok-add_arg-2.ensures.less))

pub returns-in_err-expect-clause-reads : goal.returns-in_err-expect-clause-reads
returns-in_err-expect-clause-reads g c = exits _ _ _ _ c.from_residual-in_err-expect.ensures.1 (any_listed_takes refl c.loop-tokens.invariant.0 c.loop-tokens-test.ensures.eats.0 c.loop-tokens-test.ensures.eats.1 ▹ c.in_err-expect.ensures.reads)

pub returns-clause-reads : goal.returns-clause-reads
returns-clause-reads g c = any_listed_takes refl c.loop-tokens.invariant.0 c.loop-tokens-test.ensures.eats.0 c.loop-tokens-test.ensures.eats.1 ▸ c.in_ok-expect.ensures.reads
