use Rattle.std.proofs.Common.{arith, ap, sym, ◌∙◌, ◌++◌, append-nil}
use Rattle.rv_runs.specs.Stands.{codes_of}
use Rattle.rv_emit.specs.Placed.{frame_head, number_in}
use Rattle.rv_emit.proofs.Zipping.{passing_end}
use Rattle.rv_emit.proofs.frame.Frame.push_passing.Goals as goal

pub returns : goal.returns
returns c =
    let e = passing_end (frame_head c.args.self) (frame_head c.args.callee) (number_in c.args.self) (number_in c.args.callee) c.as_slice-parameters.result.now c.args.arguments.now c.loop-i.i (omega arith) in
    sym (append-nil c.loop-i.out) ∙ (ap (λ ops. c.loop-i.out ++ codes_of ops) (sym e) ∙ c.loop-i.invariant)
