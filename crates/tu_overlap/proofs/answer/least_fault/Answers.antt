use Rattle.std.proofs.Common.{sym, subst, None}
use Rattle.tu_overlap.specs.declared.fault.OverlapKind.TheVariants.{SharedActual, ImportedActual, HiddenRoot, ChangedBound}
use Rattle.tu_overlap.proofs.Telling.{IsToldBelow, told_all, told_more, told_none}
use Rattle.tu_overlap.proofs.answer.least_fault.Goals as goal

pub returns : goal.returns
returns c =
    let program = c.args.program.now in
    let shared : IsToldBelow program 1 c.sooner-shared.result =
    subst (λ o. IsToldBelow program 1 o) (sym c.sooner-shared.ensures) (told_more program None SharedActual c.in_ok-shared.shared (told_none program) c.in_ok-shared.ensures.found) in
    let imported : IsToldBelow program 2 c.sooner-imported.result =
    subst (λ o. IsToldBelow program 2 o) (sym c.sooner-imported.ensures) (told_more program c.sooner-shared.result ImportedActual c.in_ok-imported.imported shared c.in_ok-imported.ensures.found) in
    let hidden : IsToldBelow program 3 c.sooner-hidden.result =
    subst (λ o. IsToldBelow program 3 o) (sym c.sooner-hidden.ensures) (told_more program c.sooner-imported.result HiddenRoot c.in_ok-hidden.hidden imported c.in_ok-hidden.ensures.found) in
    told_all program c.sooner.result
    (subst (λ o. IsToldBelow program 4 o) (sym c.sooner.ensures) (told_more program c.sooner-hidden.result ChangedBound c.in_ok-changed.changed hidden c.in_ok-changed.ensures.found))
