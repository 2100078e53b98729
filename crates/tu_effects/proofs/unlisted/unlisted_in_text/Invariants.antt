use Rattle.std.specs.Prelude.{take}
use Rattle.tu_core.specs.Effects.{Among, UnlistedIn, tails}
use Rattle.tu_effects.specs.Least.{IsLeast}
use Rattle.tu_effects.proofs.unlisted.unlisted_in_text.Given as goal

abbrev pub invariant-loop-place : goal.invariant-loop-place
invariant-loop-place l = IsLeast (Among UnlistedIn (take l.place (tails l.acts))) l.least
