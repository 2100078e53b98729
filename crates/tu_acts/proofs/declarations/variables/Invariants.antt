use Rattle.std.specs.Prelude.{◌≡◌, ◌++◌, drop, map}
use Rattle.tu_core.specs.Acts.{Declaring}
use Rattle.tu_acts.proofs.declarations.variables.Given as goal

abbrev pub invariant-loop-place : goal.invariant-loop-place
invariant-loop-place l = l.acts ≡ map (Declaring l.at) (drop l.place l.xs) ++ l.initial.acts
