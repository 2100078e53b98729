use Rattle.std.proofs.Common.{◌≡◌, ◌+◌, ◌*◌, ◌≤◌, ◌++◌, drop}
use Rattle.rv_flat.specs.Flat.{around_of, labels_list, labels_each, code_list, code_each}
use Rattle.rv_flat.proofs.Sizes.{size, size_list, size_each}
use Rattle.rv_flat.proofs.flatten.Output.+put.Given as goal

abbrev pub decreases-put_ops : goal.decreases-put_ops
decreases-put_ops l = 4 * size_list l.ops.now + 2

abbrev pub decreases-put_region : goal.decreases-put_region
decreases-put_region l = 4 * size_list l.region.now.ops + 3

abbrev pub decreases-put_op : goal.decreases-put_op
decreases-put_op l = 4 * size l.op.now + 1

abbrev pub decreases-put_choice : goal.decreases-put_choice
decreases-put_choice l = 4 * (size_list l.yes.now.ops + size_list l.no.now.ops) + 4

abbrev pub decreases-put_rounds : goal.decreases-put_rounds
decreases-put_rounds l = 4 * size_list l.body.now.ops + 4

abbrev pub decreases-put_handling : goal.decreases-put_handling
decreases-put_handling l = 4 * (size_list l.body.now.ops + size_list l.handler.now.ops) + 4

abbrev pub decreases-put_case : goal.decreases-put_case
decreases-put_case l = 4 * (size_each l.arms.now + size_list l.others.now.ops) + 4

abbrev pub decreases-put_arm : goal.decreases-put_arm
decreases-put_arm l = 4 * size_list l.arm.now.region.ops + 4

abbrev pub invariant-put_ops-loop-op : goal.invariant-put_ops-loop-op
invariant-put_ops-loop-op l = record {
  code : l.self.code.items ++ code_list (around_of l.fn.self.around.items l.fn.self.handler) l.n (drop l.op-index l.ops) ≡ l.fn.self.code.items ++ code_list (around_of l.fn.self.around.items l.fn.self.handler) l.next l.ops;
  around : l.self.around.items ≡ l.fn.self.around.items;
  handler : l.self.handler ≡ l.fn.self.handler;
  next : l.n + labels_list (drop l.op-index l.ops) ≡ l.next + labels_list l.ops;
  smaller : size_list (drop l.op-index l.ops) ≤ size_list l.ops;
}

abbrev pub invariant-put_case-loop-arm : goal.invariant-put_case-loop-arm
invariant-put_case-loop-arm l = record {
  code : l.self.code.items ++ code_each (around_of l.fn.self.around.items l.fn.self.handler) l.to l.next l.label l.n (drop l.arm-index l.arms) ≡ l.initial.self.code.items ++ code_each (around_of l.fn.self.around.items l.fn.self.handler) l.to l.next l.first l.initial.n l.arms;
  around : l.self.around.items ≡ l.fn.self.around.items;
  handler : l.self.handler ≡ l.fn.self.handler;
  label : l.label ≡ l.first + l.arm-index;
  next : l.n + labels_each (drop l.arm-index l.arms) ≡ l.initial.n + labels_each l.arms;
  smaller : size_each (drop l.arm-index l.arms) ≤ size_each l.arms;
}
