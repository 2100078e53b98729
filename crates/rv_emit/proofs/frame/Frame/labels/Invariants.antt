use Rattle.std.proofs.Common.{◌≡◌, ℕ, ◌+◌, ◌*◌, drop, map}
use Rattle.std.specs.Prelude.{nat_eq}
use Rattle.std.specs.HashMap.{get}
use Rattle.std.specs.Option.{unwrap_or}
use Rattle.rv_alloc.specs.Renamed.{renamed}
use Rattle.rv_text.specs.Lengths.{routine_length, code_length, label_offset}
use Rattle.rv_text.specs.Text.{label_at}
use Rattle.rv_emit.specs.Placed.{frame_head, number_in, placed_routine, routines_of}
use Rattle.rv_emit.proofs.frame.Frame.labels.Given as goal

abbrev pub invariant-loop-instruction : goal.invariant-loop-instruction
invariant-loop-instruction l = record {
  at : l.at + 4 * code_length (routines_of l.assigned) (frame_head l.self) (map (renamed (number_in l.self)) (drop l.instruction-index l.self.routine.now.code)) ≡ l.start + 4 * routine_length (routines_of l.assigned) (placed_routine l.self);
  places : (label : ℕ) → unwrap_or (get nat_eq l.labels.places label) (l.at + 4 * label_offset (routines_of l.assigned) (frame_head l.self) label (map (renamed (number_in l.self)) (drop l.instruction-index l.self.routine.now.code)))
      ≡ label_at (routines_of l.assigned) l.start (placed_routine l.self) label;
}
