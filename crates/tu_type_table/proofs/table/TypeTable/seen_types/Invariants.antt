use Rattle.std.proofs.Common.{◌≡◌, map, take}
use Rattle.tu_type_table.specs.Types.{seen}
use Rattle.tu_type_table.proofs.table.TypeTable.seen_types.Given as goal

abbrev pub invariant-loop-one : goal.invariant-loop-one
invariant-loop-one l = l.all ≡ map (seen l.self l.home) (take l.one-index l.types)
