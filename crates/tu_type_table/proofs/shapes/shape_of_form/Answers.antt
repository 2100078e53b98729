use Rattle.std.proofs.Common.{◌≡◌, List, ⊎_elim, refl, sym, ap, ◌∙◌, subst}
use Rattle.tu_base.specs.declared.shape.Span.{Span}
use Rattle.tu_base.specs.declared.shape.Shape.TheVariants.{Scalar}
use Rattle.tu_type_table.specs.declared.types.TypeForm.{TypeForm}
use Rattle.tu_type_table.specs.declared.types.TypeForm.TheVariants.{Int, Boolean, Subrange, Enumeration, Opaque}
use Rattle.tu_type_table.specs.declared.types.Row.{Row}
use Rattle.tu_type_table.specs.Types.{span_of_form, shape_of_form}
use Rattle.tu_type_table.proofs.shapes.shape_of_form.Goals as goal

scalar_at : (types : List Row) (form x : TypeForm) (span : Span) → span ≡ span_of_form types form → form ≡ x → Scalar (span_of_form types x) ≡ shape_of_form types x → Scalar span ≡ shape_of_form types form
scalar_at types form x span e h p = ap Scalar e ∙ subst (λ (y : TypeForm). Scalar (span_of_form types y) ≡ shape_of_form types y) (sym h) p

pub returns-in-Int : goal.returns-in-Int
returns-in-Int c =
    let types = c.args.rows.now in
    let form = c.args.form.now in
    let span = c.span_of_form.result in
    let e = c.span_of_form.ensures.value types in
    ⊎_elim (λ h. scalar_at types form Int span e h refl)
    (⊎_elim (λ h. scalar_at types form Boolean span e h refl)
    (⊎_elim (λ h. scalar_at types form (Subrange h.0 h.1 h.2) span e h.3 refl)
    (⊎_elim (λ h. scalar_at types form (Enumeration h.0 h.1) span e h.2 refl)
    (λ h. scalar_at types form (Opaque h.0) span e h.1 refl)))) c.in-Int.is
