use Rattle.std.proofs.Common.{◌≤◌, ◌-◌, length}
use Rattle.ir_form.proofs.around.gives_in_order.Given as goal

abbrev pub invariant-loop-low : goal.invariant-loop-low
invariant-loop-low l = l.high ≤ length l.ops

abbrev pub decreases-loop-low : goal.decreases-loop-low
decreases-loop-low l = l.high - l.low
