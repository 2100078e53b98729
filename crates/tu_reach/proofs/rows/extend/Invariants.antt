use Rattle.std.proofs.Common.{◌+◌, ◌-◌, length}
use Rattle.tu_reach.specs.Rows.{IsExtended}
use Rattle.tu_reach.proofs.rows.extend.Given as goal

abbrev pub invariant-loop-alloc : goal.invariant-loop-alloc
invariant-loop-alloc l = IsExtended l.initial.rows.items l.rows.items

abbrev pub decreases-loop-alloc : goal.decreases-loop-alloc
decreases-loop-alloc l = l.number + 1 - length l.rows.items
