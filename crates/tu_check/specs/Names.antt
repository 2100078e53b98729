-- Names that are kept in the order of their declarations.
use Rattle.std.specs.Prelude.{ℕ, List, [], ◌∷◌, ◌++◌}
use denote.Ref.{Bor}

-- the names, the newest first
abbrev pub newest_first : List (Bor (List ℕ)) → List (List ℕ)
newest_first [] = []
newest_first (name ∷ names) = newest_first names ++ name.now ∷ []
