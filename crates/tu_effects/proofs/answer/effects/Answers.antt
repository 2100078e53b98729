use Rattle.std.proofs.Common.{sym, subst}
use Rattle.tu_effects.specs.Answers.{IsCause}
use Rattle.tu_effects.proofs.Telling.{told_cause}
use Rattle.tu_effects.proofs.answer.effects.Goals as goal

pub returns-in-Some : goal.returns-in-Some
returns-in-Some c =
    let fault = c.in-Some.fault in
    subst (λ e. IsCause c.args.program.now e) (sym c.error.ensures) (told_cause c.args.program.now fault.kind fault.at c.in-Some.ensures)
