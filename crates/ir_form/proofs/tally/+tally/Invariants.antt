use Rattle.std.proofs.Common.{◌≡◌, drop}
use Rattle.ir_form.specs.Values.{defined_list, defined_region, defined_each}
use Rattle.ir_form.specs.Tests.{tally_of}
use Rattle.ir_form.proofs.tally.+tally.Given as goal

abbrev pub invariant-tally_arms-loop-arm : goal.invariant-tally_arms-loop-arm
invariant-tally_arms-loop-arm l = tally_of l.tally (defined_each (drop l.arm-index l.arms)) ≡ tally_of l.fn.before (defined_each l.arms)

abbrev pub invariant-tally_region-loop-op : goal.invariant-tally_region-loop-op
invariant-tally_region-loop-op l = tally_of l.tally (defined_list (drop l.op-index l.op-items)) ≡ tally_of l.fn.before (defined_region l.region)
