use Rattle.std.proofs.lemmas.Result.{IfOk-weaker}
use Rattle.tu_agree.proofs.Whole.{chain_agrees}
use Rattle.tu_agree.proofs.chain.compile.Goals as goal

pub returns-clause-agrees : goal.returns-clause-agrees
returns-clause-agrees g c =
    let p = g.C.Pass in
    let program = c.args.program.now in
    λ meaning picture from to. IfOk-weaker c.pass.result _ _ (λ after. chain_agrees p.bound p.SLOW p.START (p.meant_before program) (p.meant_after after) meaning (picture after) c.requires.instructions from (to after) c.requires.slow c.requires.start) c.pass.ensures.keep
