use Rattle.std.proofs.Common.{◌≡◌, map, take}
use Rattle.tu_type_table.specs.Types.{shape_of_form, row_at}
use Rattle.tu_type_table.proofs.shapes.shapes_of.Given as goal

abbrev pub invariant-loop-row : goal.invariant-loop-row
invariant-loop-row l = l.all ≡ map (λ row. shape_of_form l.rows (row_at l.rows row.bare).form) (take l.row-index l.rows)
