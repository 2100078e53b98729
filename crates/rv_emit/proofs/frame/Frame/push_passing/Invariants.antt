use Rattle.std.proofs.Common.{◌≡◌, ◌++◌, drop}
use Rattle.rv_runs.specs.Stands.{codes_of}
use Rattle.rv_layout.specs.Calling.{passing}
use Rattle.rv_emit.specs.Placed.{frame_head, numbers_in}
use Rattle.rv_emit.proofs.frame.Frame.push_passing.Given as goal

abbrev pub invariant-loop-i : goal.invariant-loop-i
invariant-loop-i l =
    l.out ++ codes_of (passing (frame_head l.self) (frame_head l.callee) (numbers_in l.callee (drop l.i l.parameters)) (numbers_in l.self (drop l.i l.arguments)))
    ≡ l.fn.out ++ codes_of (passing (frame_head l.self) (frame_head l.callee) (frame_head l.callee).parameters (numbers_in l.self l.arguments))
