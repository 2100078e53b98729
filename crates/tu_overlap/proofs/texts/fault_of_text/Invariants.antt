use Rattle.std.specs.Prelude.{◌≡◌, length, take}
use Rattle.tu_core.specs.Effects.{Among, tails}
use Rattle.tu_effects.specs.Least.{IsLeast}
use Rattle.tu_overlap.specs.Faults.{HasFaultIn}
use Rattle.tu_overlap.proofs.texts.fault_of_text.Given as goal

abbrev pub invariant-loop-place : goal.invariant-loop-place
invariant-loop-place l = record {
  length : length l.search ≡ length l.initial.search;
  least : IsLeast (Among (HasFaultIn l.program l.kind) (take l.place (tails l.acts))) l.least;
}
