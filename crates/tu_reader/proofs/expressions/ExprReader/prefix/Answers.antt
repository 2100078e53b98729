use Rattle.std.proofs.Common.{arith, refl}
use Rattle.tu_reader.proofs.Steps.{◌▸◌, ◌▹◌, rule_takes, rule_stops, no_turns, turns_more, turns_end, exits}
use Rattle.tu_reader.proofs.expressions.ExprReader.prefix.Goals as goal

pub loop-sign-init : goal.loop-sign-init
loop-sign-init g c = (no_turns c.new-signs.ensures, omega arith)

pub loop-sign-preserved : goal.loop-sign-preserved
loop-sign-preserved g c = (turns_more c.in_ok-push.ensures.ok refl c.loop-sign.invariant.0 c.in-Some.ensures.offers, omega (arith, c.loop-sign.invariant.1, c.in-Some.ensures.less))

pub returns-in_err-power-clause-reads : goal.returns-in_err-power-clause-reads
returns-in_err-power-clause-reads g c = exits _ _ _ _ c.from_residual-in_err-power.ensures.1 (rule_stops c.mark-at.ensures.marks (turns_end refl c.loop-sign.invariant.0 c.in_default.ensures.offers.0 c.in_default.ensures.offers.1 ▹ c.in_err-power.ensures.reads))

pub returns-clause-reads : goal.returns-clause-reads
returns-clause-reads g c = rule_takes refl c.mark-at.ensures.marks (turns_end refl c.loop-sign.invariant.0 c.in_default.ensures.offers.0 c.in_default.ensures.offers.1 ▸ c.in_ok-power.ensures.reads)
