use Rattle.std.specs.Prelude.{◌≡◌, drop, length}
use Rattle.tu_effects.specs.Least.{IsLeast}
use Rattle.tu_overlap.proofs.Rows.{imported_all}
use Rattle.tu_overlap.proofs.imported.imported_in.Given as goal

abbrev pub invariant-loop-place : goal.invariant-loop-place
invariant-loop-place l = record {
  length : length l.search ≡ length l.initial.search;
  least : IsLeast (imported_all l.program l.callee (drop l.place l.actuals)) l.least;
}
