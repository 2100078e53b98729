-- The parts of a list lie lower than the repetition that shows them.
use Rattle.std.specs.Prelude.{ℕ, ◌+◌, ◌≤◌, List, [], ◌∷◌}
use Rattle.std.proofs.Common.{arith}
use denote.Param.Weighed.{most}
use Rattle.grammar.specs.Description.{Description}
use Rattle.grammar.specs.Tree.{Node, height, repeated}

pub repeated_falls : {Rule A : Type 0} {body : Rule → Description Rule} (d : Description Rule) (show : A → Node body d) (part : A → ℕ) → ((x : A) → part x ≤ height (show x) + 1)
    → (xs : List A) → most part xs ≤ height (repeated d show xs) + 1
repeated_falls d show part h [] = omega arith
repeated_falls d show part h (x ∷ xs) = omega (arith, h x, repeated_falls d show part h xs)
