use Rattle.std.proofs.Common.{◌≡◌, ◌+◌, ◌≤◌, drop}
use Rattle.rv_layout.specs.Calling.{each_length}
use Rattle.rv_emit.specs.Placed.{frame_head, numbers_in, capped}
use Rattle.rv_emit.proofs.frame.Frame.each_length.Given as goal

abbrev pub invariant-loop-value : goal.invariant-loop-value
invariant-loop-value l = record {
  counted : capped (l.length + each_length (frame_head l.self) (numbers_in l.self (drop l.value-index l.values))) ≡ capped (each_length (frame_head l.self) (numbers_in l.self l.values));
  bound : l.length ≤ 18446744073709551615;
}
