use Rattle.std.proofs.Common.{◌≡◌, ◌∙◌, ap, sym, subst}
use Rattle.std.specs.Prelude.{List, Option, Some, IsSomeAnd, slice_get}
use Rattle.ir_form.specs.declared.unit.Routine.{Routine}
use Rattle.ir_form.specs.Valid.{IsMain, IsValid}
use Rattle.ir_form.proofs.Decisions.{decides_routines, decides_main}
use Rattle.ir_form.proofs.validity.valid.Goals as goal

pub returns-then-main_is_valid : goal.returns-then-main_is_valid
returns-then-main_is_valid c =
    let d = decides_routines c.args.unit.now c.args.unit.now.routines in
    let m = (decides_main c.in-Some.main.now).0 (sym c.main_is_valid.ensures ∙ c.if-main_is_valid.true) in
    let at : Some c.in-Some.main.now ≡ slice_get c.args.unit.now.routines c.args.unit.now.main = c.in-Some.ensures ∙ ap (λ (rs : List Routine). slice_get rs c.args.unit.now.main) c.as_slice.ensures in (
      λ e. record { routines = d.0 (sym c.routines_are_valid.ensures ∙ e); main = subst (λ (o : Option Routine). IsSomeAnd o IsMain) at m },
      λ (h : IsValid c.args.unit.now). c.routines_are_valid.ensures ∙ d.1 h.routines,
    )
