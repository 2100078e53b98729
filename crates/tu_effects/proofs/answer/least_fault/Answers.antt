use Rattle.std.proofs.Common.{sym, subst, None}
use Rattle.tu_effects.specs.declared.fault.EffectKind.TheVariants.{FunctionVar, FunctionWrites, FunctionTalks, UnlistedWrite}
use Rattle.tu_effects.proofs.Telling.{IsToldBelow, told_all, told_more, told_none}
use Rattle.tu_effects.proofs.answer.least_fault.Goals as goal

pub returns : goal.returns
returns c =
    let program = c.args.program.now in
    let var : IsToldBelow program 1 c.sooner-var.result =
    subst (λ o. IsToldBelow program 1 o) (sym c.sooner-var.ensures) (told_more program None FunctionVar c.function_var.result (told_none program) c.function_var.ensures) in
    let writes : IsToldBelow program 2 c.sooner-writes.result =
    subst (λ o. IsToldBelow program 2 o) (sym c.sooner-writes.ensures) (told_more program c.sooner-var.result FunctionWrites c.function_does-writes.result var c.function_does-writes.ensures) in
    let talks : IsToldBelow program 3 c.sooner-talks.result =
    subst (λ o. IsToldBelow program 3 o) (sym c.sooner-talks.ensures) (told_more program c.sooner-writes.result FunctionTalks c.function_does-talks.result writes c.function_does-talks.ensures) in
    told_all program c.sooner.result
    (subst (λ o. IsToldBelow program 4 o) (sym c.sooner.ensures) (told_more program c.sooner-talks.result UnlistedWrite c.unlisted_write-unlisted.result talks c.unlisted_write-unlisted.ensures))
