use Rattle.std.specs.Prelude.{drop}
use Rattle.tu_effects.specs.Least.{IsLeast}
use Rattle.tu_overlap.proofs.Rows.{shared_all}
use Rattle.tu_overlap.proofs.shared.shared_in.Given as goal

abbrev pub invariant-loop-place : goal.invariant-loop-place
invariant-loop-place l = IsLeast (shared_all (drop l.place l.actuals)) l.least
