use Rattle.std.proofs.Common.{◌≡◌, true, ap, sym, subst, ◌∙◌}
use Rattle.tu_core.specs.Core.{Routine}
use Rattle.tu_core.specs.Effects.{Among, IsVarFormal, is_function}
use Rattle.tu_effects.specs.Least.{IsLeast}
use Rattle.tu_effects.proofs.FirstPlace.{least_under}
use Rattle.tu_effects.proofs.formals.var_of_function.Goals as goal

pub returns-then-is_function : goal.returns-then-is_function
returns-then-is_function c =
    let formals : c.as_slice.result.now ≡ c.args.r.now.formals = c.as_slice.ensures ∙ ap (λ (r : Routine). r.formals) c.r.view_is in
    least_under (is_function c.args.r.now ≡ true) (Among IsVarFormal c.args.r.now.formals) c.var_formals.result (sym c.if-is_function.ensures)
    (subst (λ xs. IsLeast (Among IsVarFormal xs) c.var_formals.result) formals c.var_formals.ensures)
