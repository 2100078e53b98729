use Rattle.std.proofs.Common.{◌≡◌, map, take}
use Rattle.tu_type_table.specs.Types.{bare_of}
use Rattle.tu_type_table.proofs.table.TypeTable.bare_types.Given as goal

abbrev pub invariant-loop-one : goal.invariant-loop-one
invariant-loop-one l = l.all ≡ map (bare_of l.self) (take l.one-index l.types)
