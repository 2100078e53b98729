use Rattle.std.proofs.Common.{arith, refl}
use Rattle.tu_reader.proofs.Steps.{◌▸◌, ◌▹◌, rule_takes, rule_stops, no_turns, turns_more, turns_end, exits}
use Rattle.std.proofs.lemmas.Grind.{replicate_next}
use Rattle.tu_reader.proofs.expressions.ExprReader.not.Goals as goal

pub loop-nots-init : goal.loop-nots-init
loop-nots-init g c = (no_turns refl, omega arith)

pub loop-nots-preserved : goal.loop-nots-preserved
loop-nots-preserved g c = (turns_more (replicate_next c.loop-nots.nots 0) refl c.loop-nots.invariant.0 c.loop-nots-test.ensures.eats.1, omega (arith, c.loop-nots.invariant.1, c.loop-nots-test.ensures.less))

pub returns-in_err-compare-clause-reads : goal.returns-in_err-compare-clause-reads
returns-in_err-compare-clause-reads g c = exits _ _ _ _ c.from_residual.ensures.1 (rule_stops c.mark-at.ensures.marks (turns_end refl c.loop-nots.invariant.0 c.loop-nots-test.ensures.eats.0 c.loop-nots-test.ensures.eats.1 ▹ c.in_err-compare.ensures.reads))

pub returns-clause-reads : goal.returns-clause-reads
returns-clause-reads g c = rule_takes refl c.mark-at.ensures.marks (turns_end refl c.loop-nots.invariant.0 c.loop-nots-test.ensures.eats.0 c.loop-nots-test.ensures.eats.1 ▸ c.in_ok-compare.ensures.reads)
