use Rattle.std.proofs.Common.{◌≡◌, ◌-◌, ◌≤◌, ◌++◌, take, drop, length}
use Rattle.rv_runs.specs.Stands.{codes_of}
use Rattle.rv_alloc.specs.Assigned.{placed_code}
use Rattle.rv_text.specs.Text.{addresses, entry_at, routines_at, routines_words}
use Rattle.rv_emit.specs.Placed.{routines_of}
use Rattle.rv_emit.specs.Ready.{AllSmall}
use Rattle.rv_emit.proofs.emitter.push_routines.Given as goal

abbrev pub invariant-loop-frame : goal.invariant-loop-frame
invariant-loop-frame l = record {
  words : l.out ++ codes_of (routines_words (addresses (placed_code l.assigned)) (routines_of l.assigned) (entry_at (routines_of l.assigned) l.k) (drop l.k (routines_of l.assigned)))
      ≡ l.fn.out ++ codes_of (routines_words (addresses (placed_code l.assigned)) (routines_of l.assigned) routines_at (routines_of l.assigned));
  within : l.k ≤ length (routines_of l.assigned);
  small : AllSmall (take l.k (routines_of l.assigned));
}

abbrev pub decreases-loop-frame : goal.decreases-loop-frame
decreases-loop-frame l = length (routines_of l.assigned) - l.k
