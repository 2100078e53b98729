use Rattle.std.proofs.Common.{◌≡◌, drop}
use Rattle.tu_check.specs.Built.{are_times}
use Rattle.tu_check.proofs.Lists.{factors}
use Rattle.tu_check.proofs.values.are_times.Given as goal

abbrev pub invariant-loop-operator : goal.invariant-loop-operator
invariant-loop-operator l = are_times (factors (drop l.operator-index l.factors)) ≡ are_times (factors l.factors)
