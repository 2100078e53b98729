use Rattle.std.proofs.Common.{sym, subst}
use Rattle.tu_overlap.specs.Answers.{IsCause, IsTold}
use Rattle.tu_overlap.proofs.Telling.{told_cause}
use Rattle.tu_overlap.proofs.answer.overlaps.Goals as goal

pub returns-in-Some : goal.returns-in-Some
returns-in-Some c =
    let fault = c.in-Some.fault in
    let told = subst (IsTold c.args.program.now) c.in-Some.is c.in_ok-fault.ensures in
    subst (λ e. IsCause c.args.program.now e) (sym c.error.ensures) (told_cause c.args.program.now fault.kind fault.at told)
