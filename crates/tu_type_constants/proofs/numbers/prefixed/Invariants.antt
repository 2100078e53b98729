use Rattle.std.proofs.Common.{◌≡◌, ◌≤◌, length, drop}
use Rattle.tu_type_constants.specs.Constants.{all_prefixed}
use Rattle.tu_type_constants.proofs.numbers.prefixed.Given as goal

abbrev pub invariant-loop-left : goal.invariant-loop-left
invariant-loop-left l = (l.left ≤ length l.operators) × (l.value ≡ all_prefixed (drop l.left l.operators) l.fn.x)

abbrev pub decreases-loop-left : goal.decreases-loop-left
decreases-loop-left l = l.left
