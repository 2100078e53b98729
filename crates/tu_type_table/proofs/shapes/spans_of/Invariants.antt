use Rattle.std.proofs.Common.{◌≡◌, map, take}
use Rattle.tu_type_table.specs.Types.{span_of}
use Rattle.tu_type_table.proofs.shapes.spans_of.Given as goal

abbrev pub invariant-loop-one : goal.invariant-loop-one
invariant-loop-one l = l.all ≡ map (span_of l.rows) (take l.one-index l.types)
