use Rattle.std.proofs.Common.{◌≡◌, reverse, rules}
use Rattle.tu_agree.proofs.Writing.{words_keep}
use Rattle.tu_agree.proofs.example.WordsPass.pass.Goals as goal

pub returns-clause-keep : goal.returns-clause-keep
returns-clause-keep c =
    let stack = c.args.before.now.items in
    let words = c.in_ok-collect.field-0.items in
    let turned : words ≡ reverse stack = search rules in
    words_keep stack words turned
