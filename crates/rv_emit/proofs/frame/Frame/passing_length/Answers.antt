use Rattle.std.proofs.Common.{arith}
use Rattle.rv_emit.specs.Placed.{frame_head, number_in}
use Rattle.rv_emit.proofs.Zipping.{passing_length_end}
use Rattle.rv_emit.proofs.frame.Frame.passing_length.Goals as goal

pub returns : goal.returns
returns c =
    let e = passing_length_end (frame_head c.args.self) (frame_head c.args.callee) (number_in c.args.self) (number_in c.args.callee) c.as_slice-parameters.result.now c.args.arguments.now c.loop-i.i (omega arith) in
    omega (arith, e)
