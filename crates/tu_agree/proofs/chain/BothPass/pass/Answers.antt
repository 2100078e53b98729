use Rattle.std.proofs.Common.{subst}
use Rattle.tu_agree.specs.Keep.{Keeps}
use Rattle.std.proofs.lemmas.Result.{IfOk-weaker}
use Rattle.tu_agree.proofs.Compose.{keeps_both}
use Rattle.tu_agree.proofs.chain.BothPass.pass.Goals as goal

pub returns-clause-keep : goal.returns-clause-keep
returns-clause-keep g c =
    let p = g.P.Pass in
    let q = g.Q.Pass in
    let middle = c.in_ok-middle.middle in
    let first = subst (λ m. Keeps p.bound p.SLOW p.START (p.meant_before c.args.before.now) m) (g.met.Q.Follows.same middle) c.in_ok-middle.ensures.keep in
    IfOk-weaker c.pass-2.result _ _ (λ after second. keeps_both p.bound q.bound p.SLOW p.START q.SLOW q.START (p.meant_before c.args.before.now) (q.meant_before middle) (q.meant_after after) g.met.Q.Follows.turns first second) c.pass-2.ensures.keep
