use Rattle.std.specs.Prelude.{◌*◌}
use Rattle.tu_core_types.specs.StatementHeights.{height_of_start, height_of_starts}
use Rattle.tu_core_types.specs.StatementViews.{starts_view}
use Rattle.tu_room_changes.proofs.Grown.{Grown}
use Rattle.tu_room_changes.proofs.StatementRows.{all_starts}
use Rattle.tu_room_changes.proofs.declarations.+starts.Given as goal

abbrev pub invariant-starts-loop-x : goal.invariant-starts-loop-x
invariant-starts-loop-x l = Grown all_starts l.xs l.x-index l.initial.found l.found

abbrev pub decreases-start : goal.decreases-start
decreases-start l = 2 * height_of_start l.s.now

abbrev pub decreases-starts : goal.decreases-starts
decreases-starts l = 2 * height_of_starts (starts_view l.xs.now)
