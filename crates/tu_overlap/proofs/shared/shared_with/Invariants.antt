use Rattle.std.specs.Prelude.{drop}
use Rattle.tu_effects.specs.Least.{IsLeast}
use Rattle.tu_overlap.proofs.Rows.{shared_with}
use Rattle.tu_overlap.proofs.shared.shared_with.Given as goal

abbrev pub invariant-loop-place : goal.invariant-loop-place
invariant-loop-place l = IsLeast (shared_with l.is_var l.p (drop l.place l.later)) l.least
