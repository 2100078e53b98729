use Rattle.std.proofs.Common.{◌≡◌, ◌+◌, ◌≤◌, drop, map}
use Rattle.rv_alloc.specs.Renamed.{renamed}
use Rattle.rv_text.specs.Lengths.{routine_length, code_length}
use Rattle.rv_emit.specs.Placed.{frame_head, number_in, placed_routine, routines_of, capped}
use Rattle.rv_emit.proofs.frame.Frame.length.Given as goal

abbrev pub invariant-loop-instruction : goal.invariant-loop-instruction
invariant-loop-instruction l = record {
  counted : capped (l.words + code_length (routines_of l.assigned) (frame_head l.self) (map (renamed (number_in l.self)) (drop l.instruction-index l.self.routine.now.code))) ≡ capped (routine_length (routines_of l.assigned) (placed_routine l.self));
  bound : l.words ≤ 18446744073709551615;
}
