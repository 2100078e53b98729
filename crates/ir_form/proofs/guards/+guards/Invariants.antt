use Rattle.std.proofs.Common.{◌≡◌, ◌+◌, ◌-◌, ◌^◌, ◌≤◌, min, length, drop}
use Rattle.ir_form.specs.Values.{marks_list, marks_each}
use Rattle.ir_form.proofs.guards.+guards.Given as goal

abbrev pub invariant-guards_in-loop-op : goal.invariant-guards_in-loop-op
invariant-guards_in-loop-op l = record {
  within : l.guards ≤ 2 ^ 64 - 1;
  count : min (l.guards + length (marks_list (drop l.op-index l.ops))) (2 ^ 64 - 1) ≡ min (l.fn.before + length (marks_list l.ops)) (2 ^ 64 - 1);
}

abbrev pub invariant-guards_in_arms-loop-arm : goal.invariant-guards_in_arms-loop-arm
invariant-guards_in_arms-loop-arm l = record {
  within : l.guards ≤ 2 ^ 64 - 1;
  count : min (l.guards + length (marks_each (drop l.arm-index l.arms))) (2 ^ 64 - 1) ≡ min (l.fn.before + length (marks_each l.arms)) (2 ^ 64 - 1);
}
