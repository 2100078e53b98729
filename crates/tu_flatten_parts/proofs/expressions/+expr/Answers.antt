use Rattle.std.proofs.Common.{ℕ, ◌<◌, length, replicate, arith, sym}
use Rattle.std.proofs.lemmas.List.{length-replicate, get_or-replicate}
use Rattle.tu_flatten_parts.proofs.Lists.{turn}
use Rattle.tu_flatten_parts.proofs.expressions.+expr.Goals as goal

pub write_not-loop-preserved : goal.write_not-loop-preserved
write_not-loop-preserved t c =
    let nots = c.not.inside.nots in
    let within : c.loop.counter < length (replicate nots 0) = omega (arith, c.loop-test.true, length-replicate {A = ℕ} nots 0) in
    turn c.loop.invariant within (sym (get_or-replicate nots c.loop.counter 0 0 c.loop-test.true)) c.in_ok-word.ensures
