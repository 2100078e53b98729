use Rattle.std.specs.Prelude.{◌≡◌, ◌∷◌, length, take}
use Rattle.tu_core.specs.Effects.{Among}
use Rattle.tu_effects.specs.Least.{IsLeast}
use Rattle.tu_overlap.proofs.AllTexts.{OfText}
use Rattle.tu_overlap.proofs.texts.fault_of_kind.Given as goal

abbrev pub invariant-loop-acts : goal.invariant-loop-acts
invariant-loop-acts l = record {
  length : length l.search ≡ length l.fn.search;
  least : IsLeast (Among (OfText l.program l.kind) (l.texts.main ∷ take l.acts-index l.acts-items)) l.least;
}
