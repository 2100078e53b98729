use Rattle.std.proofs.Common.{arith, refl}
use Rattle.tu_reader.proofs.Steps.{◌▸◌, ◌▹◌, first_stops, rule_takes, rule_stops, no_turns, turns_more, turns_stop, turns_end, exits, starts_taken}
use Rattle.tu_reader.proofs.expressions.ExprReader.sum.Goals as goal

pub returns-in_err-first-clause-reads : goal.returns-in_err-first-clause-reads
returns-in_err-first-clause-reads g c = exits _ _ _ _ c.from_residual.ensures.1 (rule_stops c.mark-at.ensures.marks (first_stops c.in_err-first.ensures.reads))

pub loop-sign-init : goal.loop-sign-init
loop-sign-init g c = (no_turns c.new-more.ensures, omega arith)

pub returns-in_err-next-clause-reads : goal.returns-in_err-next-clause-reads
returns-in_err-next-clause-reads g c = exits _ _ _ _ c.from_residual-in_err-next.ensures.1 (rule_stops c.mark-at.ensures.marks (c.in_ok-first.ensures.reads ▹ turns_stop refl c.loop-sign.invariant.0 (starts_taken refl c.in-Some.ensures.offers) (c.in-Some.ensures.offers ▹ c.in_err-next.ensures.reads)))

pub loop-sign-preserved : goal.loop-sign-preserved
loop-sign-preserved g c = (turns_more c.in_ok-push.ensures.ok refl c.loop-sign.invariant.0 (c.in-Some.ensures.offers ▸ c.in_ok-next.ensures.reads), omega (arith, c.loop-sign.invariant.1, c.in-Some.ensures.less, c.in_ok-next.ensures.less))

pub returns-clause-reads : goal.returns-clause-reads
returns-clause-reads g c = rw (c.into_inner-first.ensures, c.new-first.ensures) (rule_takes refl c.mark-at.ensures.marks (c.in_ok-first.ensures.reads ▸ turns_end refl c.loop-sign.invariant.0 c.in_default.ensures.offers.0 c.in_default.ensures.offers.1))
