use Rattle.std.proofs.Common.{◌≡◌, drop}
use Rattle.std.specs.List.{list_all}
use Rattle.ir_form.specs.Values.{values_of, defined_list, defined_region, defined_each}
use Rattle.ir_form.specs.Tests.{is_once}
use Rattle.ir_form.proofs.tally.+once.Given as goal

abbrev pub invariant-once_arms-loop-arm : goal.invariant-once_arms-loop-arm
invariant-once_arms-loop-arm l = list_all (is_once (values_of l.routine)) (defined_each (drop l.arm-index l.arms)) ≡ list_all (is_once (values_of l.routine)) (defined_each l.arms)

abbrev pub invariant-once_region-loop-op : goal.invariant-once_region-loop-op
invariant-once_region-loop-op l = list_all (is_once (values_of l.routine)) (defined_list (drop l.op-index l.op-items)) ≡ list_all (is_once (values_of l.routine)) (defined_region l.region)
