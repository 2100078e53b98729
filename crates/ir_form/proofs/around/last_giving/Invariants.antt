use Rattle.std.proofs.Common.{◌≤◌, ◌-◌}
use Rattle.ir_form.proofs.around.last_giving.Given as goal

abbrev pub invariant-loop-place : goal.invariant-loop-place
invariant-loop-place l = record { low : l.low ≤ l.place; high : l.place ≤ l.high }

abbrev pub decreases-loop-place : goal.decreases-loop-place
decreases-loop-place l = l.place - l.low
