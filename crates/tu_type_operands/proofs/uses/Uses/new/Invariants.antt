use Rattle.std.specs.Prelude.{◌≡◌, drop}
use Rattle.tu_type_operands.specs.Tables.{uses_by_start}
use Rattle.tu_type_operands.proofs.uses.Uses.new.Given as goal

abbrev pub invariant-loop-place : goal.invariant-loop-place
invariant-loop-place l = l.by_start.entries ≡ uses_by_start (drop l.place l.uses)
