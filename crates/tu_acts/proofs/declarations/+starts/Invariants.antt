use Rattle.std.specs.Prelude.{◌≡◌, ◌*◌, ◌++◌, drop}
use Rattle.tu_core_types.specs.StatementHeights.{height_of_start, height_of_starts}
use Rattle.tu_core_types.specs.StatementViews.{starts_view}
use Rattle.tu_acts.proofs.StatementRows.{all_starts}
use Rattle.tu_acts.proofs.declarations.+starts.Given as goal

abbrev pub invariant-starts-loop-place : goal.invariant-starts-loop-place
invariant-starts-loop-place l = l.acts ≡ all_starts (drop l.place l.xs) ++ l.initial.acts

abbrev pub decreases-start : goal.decreases-start
decreases-start l = 2 * height_of_start l.s.now

abbrev pub decreases-starts : goal.decreases-starts
decreases-starts l = 2 * height_of_starts (starts_view l.xs.now)
