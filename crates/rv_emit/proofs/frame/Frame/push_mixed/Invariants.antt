use Rattle.std.proofs.Common.{◌≡◌, ◌++◌, length, true}
use Rattle.rv_runs.specs.Stands.{codes_of}
use Rattle.rv_layout.specs.Moves.{moves, move_words}
use Rattle.rv_emit.specs.Placed.{frame_head, numbers_in}
use Rattle.rv_emit.specs.Mixed.{AllInReach, words_left}
use Rattle.rv_emit.proofs.frame.Frame.push_mixed.Given as goal

abbrev pub invariant-loop-i : goal.invariant-loop-i
invariant-loop-i l = record {
  words : l.out ++ codes_of (words_left (frame_head l.self) l.near (numbers_in l.self l.to) l.i l.mixed) ≡ l.fn.out ++ codes_of (move_words (frame_head l.self) l.near true (moves (numbers_in l.self l.to) (numbers_in l.self l.from)));
  length : length l.mixed.rest.items ≡ length l.from;
  reach : AllInReach (frame_head l.self) l.near l.mixed;
}
