use Rattle.std.proofs.Common.{ap, sym, ◌∙◌, take}
use Rattle.std.proofs.lemmas.List.{take_min}
use Rattle.tu_acts.specs.ActViews.{act_view}
use Rattle.tu_effects.proofs.Deeds.{fixing_found}
use Rattle.tu_effects.proofs.unlisted.unlisted_in.Goals as goal

pub returns-in-Fixing : goal.returns-in-Fixing
returns-in-Fixing c =
    let behind = c.args.behind.now in
    let f = c.in-Fixing in
    fixing_found c.args.act.now f.variables.now f.collections.now f.extent behind _ c.as_slice.result.now c.as_slice-in-Fixing.result.now c.scope_changes_fixed.result
    (sym c.act.view_is ∙ ap act_view f.is) c.as_slice.ensures c.as_slice-in-Fixing.ensures
    (c.split_at.ensures.front ∙ ap (λ n. take n behind) c.min.ensures ∙ take_min f.extent behind) c.scope_changes_fixed.ensures
