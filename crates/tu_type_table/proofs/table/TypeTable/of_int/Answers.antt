use Rattle.std.proofs.Common.{◌≡◌, ℕ, ◌++◌, List, [], ◌∷◌, ℤ, Vec, refl, sym, ap, ◌∙◌, subst}
use Rattle.std.specs.declared.alloc.Global.{Global}
use Rattle.std.specs.Map.{lookup}
use Rattle.tu_type_table.specs.declared.types.Row.{Row}
use Rattle.tu_type_table.specs.Types.{no_row}
use Rattle.tu_type_table.specs.Index.{IsTable, is_key, number_from}
use Rattle.tu_type_table.proofs.OneMore.{table_first, index_put}
use Rattle.tu_type_table.proofs.table.TypeTable.of_int.Goals as goal

pub invariant_of-result : goal.invariant_of-result
invariant_of-result c =
    let rows : c.push.new.self.items ≡ no_row ∷ [] = c.in_ok-push.ensures.items ∙ ap (λ (xs : List Row). xs ++ no_row ∷ []) c.new-rows.ensures.items in
    let none = λ (q : List ℤ). ap (λ (es : List (Vec ℤ Global × ℕ)). lookup (λ (k : Vec ℤ Global). is_key q k.items) es) c.new-index.ensures.empty in (
      subst IsTable (sym rows) table_first,
      λ q. index_put [] no_row c.in_ok-key.key 0 c.new-index.result.entries c.insert.new.self.entries none c.in_ok-insert.ensures.entries c.in_ok-key.ensures refl refl q
          ∙ ap (λ (types : List Row). number_from q 0 types) (sym rows),
    )
