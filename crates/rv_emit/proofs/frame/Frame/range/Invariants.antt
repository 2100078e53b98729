use Rattle.std.proofs.Common.{◌≡◌, ℕ, ◌≤◌, ◌⊎◌, drop, true}
use Rattle.rv_layout.specs.Moves.{is_among}
use Rattle.rv_emit.specs.Placed.{numbers_in}
use Rattle.rv_emit.proofs.frame.Frame.range.Given as goal

abbrev pub invariant-loop-value : goal.invariant-loop-value
invariant-loop-value l = (x : ℕ) → is_among (numbers_in l.self l.values) x ≡ true → ((l.least ≤ x) × (x ≤ l.greatest)) ⊎ (is_among (numbers_in l.self (drop l.value-index l.values)) x ≡ true)
