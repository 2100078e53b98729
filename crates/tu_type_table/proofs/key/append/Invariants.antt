use Rattle.std.proofs.Common.{◌≡◌, ◌++◌, map, pos, take}
use Rattle.tu_type_table.proofs.key.append.Given as goal

abbrev pub invariant-loop-index : goal.invariant-loop-index
invariant-loop-index l = l.key.items ≡ l.fn.key.items ++ map pos (take l.index-index l.indexes)
