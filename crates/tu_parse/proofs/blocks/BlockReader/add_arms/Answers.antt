use Rattle.std.proofs.Common.{arith, refl}
use Rattle.tu_reader.proofs.Steps.{◌▸◌, ◌▹◌, first_stops, left_takes, right_takes, none_takes, left_stops, right_stops, spot_takes, spot_stops, exits}
use Rattle.tu_reader.proofs.Tokens.{nothing_taken}
use Rattle.tu_parse.proofs.Arms.{no_arms, arm_more, arms_end}
use Rattle.tu_parse.proofs.blocks.BlockReader.add_arms.Goals as goal

pub loop-tokens-init : goal.loop-tokens-init
loop-tokens-init g c = (no_arms c.requires.none, omega arith)

pub returns-in_err-block-clause-reads : goal.returns-in_err-block-clause-reads
returns-in_err-block-clause-reads g c = exits _ _ _ _ c.from_residual.ensures.1 (c.loop-tokens.invariant.0.stops (left_stops c.loop-tokens-test.ensures (spot_stops (c.skip.ensures.takes ▹ left_stops c.if-sees.ensures (c.skip-then-sees.ensures.takes ▹ c.in_err-block.ensures.reads)))))

pub returns-then-sees-clause-reads : goal.returns-then-sees-clause-reads
returns-then-sees-clause-reads g c = arms_end _ c.loop-tokens.invariant.0 (left_takes refl (spot_takes refl c.spot-spot.ensures (c.skip.ensures.takes ▸ left_takes refl (c.skip-then-sees.ensures.takes ▸ c.in_ok-block.ensures.reads))))

pub returns-in_err-labels-clause-reads : goal.returns-in_err-labels-clause-reads
returns-in_err-labels-clause-reads g c = exits _ _ _ _ c.from_residual-in_err-labels.ensures.1 (c.loop-tokens.invariant.0.stops (left_stops c.loop-tokens-test.ensures (spot_stops (c.skip.ensures.takes ▹ right_stops c.if-sees.ensures (first_stops c.in_err-labels.ensures.reads)))))

pub returns-in_err-expect-clause-reads : goal.returns-in_err-expect-clause-reads
returns-in_err-expect-clause-reads g c = exits _ _ _ _ c.from_residual-in_err-expect.ensures.1 (c.loop-tokens.invariant.0.stops (left_stops c.loop-tokens-test.ensures (spot_stops (c.skip.ensures.takes ▹ right_stops c.if-sees.ensures (c.in_ok-labels.ensures.reads ▹ first_stops c.in_err-expect.ensures.reads)))))

pub returns-in_err-block-2-clause-reads : goal.returns-in_err-block-2-clause-reads
returns-in_err-block-2-clause-reads g c = exits _ _ _ _ c.from_residual-in_err-block-2.ensures.1 (c.loop-tokens.invariant.0.stops (left_stops c.loop-tokens-test.ensures (spot_stops (c.skip.ensures.takes ▹ right_stops c.if-sees.ensures (c.in_ok-labels.ensures.reads ▹ (c.in_ok-expect.ensures.reads ▹ first_stops c.in_err-block-2.ensures.reads))))))

pub loop-tokens-preserved : goal.loop-tokens-preserved
loop-tokens-preserved g c = (arm_more _ (rw (c.into_inner-first.ensures, c.new-labels.ensures) at c.in_ok-push.ensures.ok) c.loop-tokens.invariant.0 (λ y s p. left_takes refl (spot_takes refl c.spot-spot.ensures (c.skip.ensures.takes ▸ right_takes refl refl (c.in_ok-labels.ensures.reads ▸ (c.in_ok-expect.ensures.reads ▸ (c.in_ok-block-2.ensures.reads ▸ p)))))) (λ e s q. left_stops c.loop-tokens-test.ensures (spot_stops (c.skip.ensures.takes ▹ right_stops c.if-sees.ensures (c.in_ok-labels.ensures.reads ▹ (c.in_ok-expect.ensures.reads ▹ (c.in_ok-block-2.ensures.reads ▹ q)))))), omega (arith, c.loop-tokens.invariant.1, c.skip.ensures.less, c.in_ok-labels.ensures.less, c.in_ok-expect.ensures.less, c.in_ok-block-2.ensures.less))

pub returns-clause-reads : goal.returns-clause-reads
returns-clause-reads g c = arms_end _ c.loop-tokens.invariant.0 (none_takes c.loop-tokens-test.ensures (nothing_taken _ _ refl))
