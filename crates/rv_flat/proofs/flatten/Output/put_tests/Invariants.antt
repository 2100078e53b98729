use Rattle.std.proofs.Common.{◌≡◌, ◌+◌, ◌++◌, drop}
use Rattle.rv_flat.specs.Flat.{tests_each}
use Rattle.rv_flat.proofs.flatten.Output.put_tests.Given as goal

abbrev pub invariant-loop-arm : goal.invariant-loop-arm
invariant-loop-arm l = record {
  code : l.self.code.items ++ tests_each l.value l.label (drop l.arm-index l.arms) ≡ l.fn.self.code.items ++ tests_each l.value l.first l.arms;
  around : l.self.around.items ≡ l.fn.self.around.items;
  handler : l.self.handler ≡ l.fn.self.handler;
  label : l.label ≡ l.first + l.arm-index;
}
