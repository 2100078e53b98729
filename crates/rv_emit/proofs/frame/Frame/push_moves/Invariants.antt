use Rattle.std.proofs.Common.{◌≡◌, ◌≤◌, ◌++◌, drop, false, length}
use Rattle.rv_runs.specs.Stands.{codes_of}
use Rattle.rv_layout.specs.Moves.{moves, move_words}
use Rattle.rv_emit.specs.Placed.{frame_head, numbers_in}
use Rattle.rv_emit.proofs.frame.Frame.push_moves.Given as goal

abbrev pub invariant-loop-i : goal.invariant-loop-i
invariant-loop-i l = record {
  words : l.out ≡ l.fn.out ++ codes_of (move_words (frame_head l.self) l.near false (moves (numbers_in l.self (drop l.i l.to)) (numbers_in l.self (drop l.i l.from))));
  within_to : l.i ≤ length l.to;
  within_from : l.i ≤ length l.from;
}

abbrev pub decreases-loop-i : goal.decreases-loop-i
decreases-loop-i l = l.i
