use Rattle.std.proofs.Common.{arith, refl}
use Rattle.tu_reader.proofs.Steps.{◌▸◌, ◌▹◌, first_stops, rule_takes, rule_stops, no_turns, turns_more, turns_stop, turns_end, exits}
use Rattle.tu_reader.proofs.expressions.ExprReader.path.Goals as goal

pub returns-in_err-root-clause-reads : goal.returns-in_err-root-clause-reads
returns-in_err-root-clause-reads g c = exits _ _ _ _ c.from_residual.ensures.1 (rule_stops c.mark-at.ensures.marks (first_stops c.in_err-root.ensures.reads))

pub loop-steps-init : goal.loop-steps-init
loop-steps-init g c = (no_turns c.new-steps.ensures, omega arith)

pub returns-in_err-step-clause-reads : goal.returns-in_err-step-clause-reads
returns-in_err-step-clause-reads g c = exits _ _ _ _ c.from_residual-in_err-step.ensures.1 (rule_stops c.mark-at.ensures.marks (c.in_ok-root.ensures.reads ▹ turns_stop refl c.loop-steps.invariant.0 c.in_err-step.ensures.tries.0 c.in_err-step.ensures.tries.1))

pub loop-steps-preserved : goal.loop-steps-preserved
loop-steps-preserved g c =
    let offers = rw c.in-Some.is at c.in_ok-step.ensures.tries in
    let less = rw c.in-Some.is at c.in_ok-step.ensures.less in
    (turns_more c.in_ok-push.ensures.ok refl c.loop-steps.invariant.0 offers, omega (arith, c.loop-steps.invariant.1, less))

pub returns-clause-reads : goal.returns-clause-reads
returns-clause-reads g c =
    let offers = rw c.in_default.is at c.in_ok-step.ensures.tries in
    rule_takes refl c.mark-at.ensures.marks (c.in_ok-root.ensures.reads ▸ turns_end refl c.loop-steps.invariant.0 offers.0 offers.1)
