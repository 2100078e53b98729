use Rattle.std.specs.Prelude.{◌≡◌, ◌++◌, drop}
use Rattle.tu_acts.proofs.StatementRows.{all_taken}
use Rattle.tu_acts.proofs.plain.taken.Given as goal

abbrev pub invariant-loop-place : goal.invariant-loop-place
invariant-loop-place l = l.acts ≡ all_taken (drop l.place l.xs) ++ l.initial.acts
