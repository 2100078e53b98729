use Rattle.std.proofs.Common.{◌≡◌, drop}
use Rattle.ir_form.specs.Tests.{scope_of, sees}
use Rattle.ir_form.proofs.around.sees_each.Given as goal

abbrev pub invariant-loop-value : goal.invariant-loop-value
invariant-loop-value l = sees (scope_of l.around) (drop l.value-index l.wanted) ≡ sees (scope_of l.around) l.wanted
