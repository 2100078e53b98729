use Rattle.std.proofs.Common.{◌≡◌, reverse, rules, ◌∙◌, ap}
use Rattle.std.proofs.lemmas.List.{reverse-reverse}
use Rattle.tu_agree.proofs.Writing.{stack_keeps}
use Rattle.tu_agree.proofs.example.StackPass.pass.Goals as goal

pub returns-clause-keep : goal.returns-clause-keep
returns-clause-keep c =
    let text = c.args.before.now.items in
    let stack = c.in_ok-collect.field-0.items in
    let turned : stack ≡ reverse text = search rules in
    stack_keeps text stack (ap reverse turned ∙ reverse-reverse text)
