-- Rows of as many texts.
use Rattle.std.specs.Prelude.{◌≡◌, ℕ, List, [], ◌∷◌}

abbrev pub IsEven : ℕ → List ℕ → Type 0
IsEven n [] = Unit {0}
IsEven n (m ∷ more) = (m ≡ n) × IsEven n more
