use Rattle.std.proofs.Common.{◌≡◌, ◌+◌, ◌≤◌, drop}
use Rattle.rv_layout.specs.Calling.{passing_length}
use Rattle.rv_emit.specs.Placed.{frame_head, numbers_in, capped}
use Rattle.rv_emit.proofs.frame.Frame.passing_length.Given as goal

abbrev pub invariant-loop-i : goal.invariant-loop-i
invariant-loop-i l = record {
  counted : capped (l.length + passing_length (frame_head l.self) (frame_head l.callee) (numbers_in l.callee (drop l.i l.parameters)) (numbers_in l.self (drop l.i l.arguments)))
      ≡ capped (passing_length (frame_head l.self) (frame_head l.callee) (frame_head l.callee).parameters (numbers_in l.self l.arguments));
  bound : l.length ≤ 18446744073709551615;
}
