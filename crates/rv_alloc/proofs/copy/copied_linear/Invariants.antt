use Rattle.std.proofs.Common.{◌≡◌, ◌++◌, drop}
use Rattle.rv_alloc.proofs.copy.copied_linear.Given as goal

abbrev pub invariant-loop-r : goal.invariant-loop-r
invariant-loop-r l = l.routines ++ drop l.r-index l.linear.routines ≡ l.linear.routines
