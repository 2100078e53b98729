use Rattle.std.proofs.Common.{◌≡◌, rules, sym, subst}
use Rattle.tu_agree.specs.Example.{stack_meant}
use Rattle.tu_agree.specs.Keep.{KeepsTurns}
use Rattle.tu_agree.proofs.Writing.{same_keeps}
use Rattle.tu_agree.proofs.example.SamePass.pass.Goals as goal

pub returns-clause-keep : goal.returns-clause-keep
returns-clause-keep c =
    let before = c.args.before.now.items in
    let after = c.in_ok-stack.stack.items in
    let copied : after ≡ before = search rules in
    subst (λ stack. KeepsTurns 1 0 (stack_meant before) (stack_meant stack)) (sym copied) (same_keeps before)
