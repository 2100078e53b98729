use Rattle.std.proofs.Common.{◌≡◌, map, take}
use Rattle.tu_type_table.specs.Types.{variant_shape}
use Rattle.tu_type_table.proofs.shapes.variant_shapes.Given as goal

abbrev pub invariant-loop-variant : goal.invariant-loop-variant
invariant-loop-variant l = l.all ≡ map (variant_shape l.rows) (take l.variant-index l.variants)
