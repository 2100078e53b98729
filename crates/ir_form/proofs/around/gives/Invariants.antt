use Rattle.std.proofs.Common.{◌≡◌, drop}
use Rattle.ir_form.specs.Valid.{given_list}
use Rattle.ir_form.specs.Tests.{contains}
use Rattle.ir_form.proofs.around.gives.Given as goal

abbrev pub invariant-loop-op : goal.invariant-loop-op
invariant-loop-op l = contains (given_list (drop l.op-index l.ops)) l.value ≡ contains (given_list l.ops) l.value
