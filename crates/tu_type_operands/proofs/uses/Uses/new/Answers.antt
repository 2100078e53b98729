use Rattle.std.proofs.Common.{arith}
use Rattle.tu_type_operands.proofs.Lookups.{next_use}
use Rattle.tu_type_operands.proofs.uses.Uses.new.Goals as goal

pub loop-place-preserved : goal.loop-place-preserved
loop-place-preserved c = next_use c.args.uses.now c.loop-place.place _ _ _ c.loop-place.invariant (omega (arith, c.loop-place-test.true)) (omega (arith, c.loop-place.auto.place)) c.in_ok-insert.ensures.entries
