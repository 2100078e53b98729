use Rattle.std.proofs.Common.{◌≡◌, ◌++◌, take, drop, map}
use Rattle.std.specs.Prelude.{All}
use Rattle.rv_runs.specs.Stands.{codes_of}
use Rattle.rv_alloc.specs.Renamed.{renamed}
use Rattle.rv_layout.specs.Calling.{entering}
use Rattle.rv_layout.specs.Ready.{IsSmall}
use Rattle.rv_layout.specs.Words.{code_words, far_jump}
use Rattle.rv_emit.specs.Placed.{frame_head, number_in, routines_of}
use Rattle.rv_emit.specs.Site.{addresses_of, label_place}
use Rattle.rv_emit.proofs.frame.Frame.push_routine.Given as goal

abbrev pub invariant-loop-instruction : goal.invariant-loop-instruction
invariant-loop-instruction l = record {
  words : l.out ++ codes_of (code_words (addresses_of l.site) (routines_of l.assigned) (frame_head l.self) (far_jump (label_place l.labels)) (map (renamed (number_in l.self)) (drop l.instruction-index l.self.routine.now.code)))
      ≡ l.fn.out ++ codes_of (entering (frame_head l.self) ++ code_words (addresses_of l.site) (routines_of l.assigned) (frame_head l.self) (far_jump (label_place l.labels)) (map (renamed (number_in l.self)) l.self.routine.now.code));
  small : All IsSmall (map (renamed (number_in l.self)) (take l.instruction-index l.self.routine.now.code));
}
