use Rattle.std.proofs.Common.{◌≡◌, [], ◌∷◌, ℤ, pos, to_z, of_z, w64, sym, ap, ◌∙◌, subst, rules}
use Rattle.std.proofs.lemmas.Int.{ints, to_z-of_z}
use Rattle.tu_type_table.specs.declared.types.TypeForm.TheVariants.{PointerTo}
use Rattle.tu_type_table.specs.Index.{IsIndex}
use Rattle.tu_type_table.proofs.Numbering.{found_by_find}
use Rattle.tu_type_table.proofs.table.TypeTable.pointer_type.Goals as goal

pub returns : goal.returns
returns c =
    let types = c.args.self.now in
    let tied : IsIndex c.self.inside.index types = subst (IsIndex c.self.inside.index) c.self.view_is c.self.invariant.1 in
    let stored : to_z w64 (of_z w64 c.into.result) ≡ pos c.args.collection = to_z-of_z w64 c.into.result (search (rules, ints)) ∙ c.into.ensures in
    sym (found_by_find types (PointerTo c.args.collection) (pos 6 ∷ to_z w64 (of_z w64 c.into.result) ∷ []) c.find.result (c.find.ensures types tied) (ap (λ (z : ℤ). pos 6 ∷ z ∷ []) stored))
