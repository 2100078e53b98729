use Rattle.std.proofs.Common.{◌≡◌, ◌++◌, drop}
use Rattle.rv_flat.specs.Flat.{range_tests}
use Rattle.rv_flat.proofs.flatten.Output.put_range_tests.Given as goal

abbrev pub invariant-loop-range : goal.invariant-loop-range
invariant-loop-range l = record {
  code : l.self.code.items ++ range_tests l.value l.label (drop l.range-index l.ranges) ≡ l.fn.self.code.items ++ range_tests l.value l.label l.ranges;
  around : l.self.around.items ≡ l.fn.self.around.items;
  handler : l.self.handler ≡ l.fn.self.handler;
}
