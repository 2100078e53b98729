use Rattle.std.specs.Prelude.{◌∷◌, take}
use Rattle.tu_core.specs.Effects.{Among}
use Rattle.tu_effects.specs.Least.{IsLeast}
use Rattle.tu_effects.proofs.Deeds.{IsUnlisted}
use Rattle.tu_effects.proofs.unlisted.unlisted_write.Given as goal

abbrev pub invariant-loop-acts : goal.invariant-loop-acts
invariant-loop-acts l = IsLeast (Among IsUnlisted (l.texts.main ∷ take l.acts-index l.acts-items)) l.least
