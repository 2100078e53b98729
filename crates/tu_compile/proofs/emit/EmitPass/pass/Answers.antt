use Rattle.std.proofs.Common.{sym, subst}
use Rattle.rv_emit.specs.Ready.{AgreesWith}
use Rattle.tu_compile.proofs.Images.{keeps_image, is_emitted}
use Rattle.tu_compile.proofs.emit.EmitPass.pass.Goals as goal

pub returns-clause-keep : goal.returns-clause-keep
returns-clause-keep c =
    let h = is_emitted c.args.before.now c.requires in
    keeps_image c.args.before.now c.make.result (c.in_ok-emitted.ensures.place h) (subst (AgreesWith c.args.before.now) (sym c.make.ensures) (c.in_ok-emitted.ensures.agrees h))
