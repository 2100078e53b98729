use Rattle.std.proofs.Common.{◌≡◌, take}
use Rattle.tu_type_table.specs.Types.{field_shapes}
use Rattle.tu_type_table.proofs.shapes.field_shapes.Given as goal

abbrev pub invariant-loop-field : goal.invariant-loop-field
invariant-loop-field l = l.all ≡ field_shapes l.rows (take l.field-index l.fields)
