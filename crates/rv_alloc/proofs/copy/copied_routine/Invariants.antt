use Rattle.std.proofs.Common.{◌≡◌, ◌++◌, drop}
use Rattle.rv_alloc.proofs.copy.copied_routine.Given as goal

abbrev pub invariant-loop-i : goal.invariant-loop-i
invariant-loop-i l = l.code ++ drop l.i-index l.r.code ≡ l.r.code
