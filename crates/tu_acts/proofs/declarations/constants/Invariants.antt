use Rattle.std.specs.Prelude.{◌≡◌, ◌++◌, drop}
use Rattle.tu_core.specs.Acts.{constants_acts}
use Rattle.tu_acts.proofs.declarations.constants.Given as goal

abbrev pub invariant-loop-place : goal.invariant-loop-place
invariant-loop-place l = l.acts ≡ constants_acts l.at (drop l.place l.xs) ++ l.initial.acts
