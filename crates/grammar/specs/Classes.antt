-- Lists of classes as sets, and the class of the next lexeme.
use Rattle.std.specs.Prelude.{◌≡◌, ℕ, Bool, true, false, not, ◌&&◌, ◌||◌, ◌==◌, List, [], ◌∷◌, Option, Some, None}
use Rattle.grammar.specs.Description.{Lexeme}

abbrev pub is_among : ℕ → List ℕ → Bool
is_among c [] = false
is_among c (x ∷ xs) = (c == x) || is_among c xs

abbrev pub are_apart : List ℕ → List ℕ → Bool
are_apart [] ys = true
are_apart (x ∷ xs) ys = not (is_among x ys) && are_apart xs ys

abbrev pub are_within : List ℕ → List ℕ → Bool
are_within [] ys = true
are_within (x ∷ xs) ys = is_among x ys && are_within xs ys

-- the class of the next lexeme, or none at the end
abbrev pub next_class : List Lexeme → Option ℕ
next_class [] = None
next_class (x ∷ u) = Some x.0

abbrev pub is_class_among : List ℕ → Option ℕ → Bool
is_class_among classes None = false
is_class_among classes (Some c) = is_among c classes

-- whether the next lexeme is of one of the classes
abbrev pub starts : List ℕ → List Lexeme → Bool
starts classes u = is_class_among classes (next_class u)

-- the next lexeme, if there is one, is of one of the classes
abbrev pub Fits : List ℕ → List Lexeme → Type 0
Fits classes [] = Unit {0}
Fits classes (x ∷ u) = is_among x.0 classes ≡ true
