-- The spellings of signs and words, and the texts of lexemes.
use Rattle.std.specs.Prelude.{◌≡◌, ℕ, cond, List, [], ◌∷◌, ◌==◌, if◌then◌else◌, length, false, Some}
use Rattle.std.specs.List.{sum_by}
use Rattle.grammar.specs.Description.{Lexeme}
use Rattle.tu_token.specs.declared.class.Class.{Class}
use Rattle.tu_token.specs.ClassNumbers.{number, keeps_text}
use Rattle.tu_token.specs.Lexemes.{shape_of, Lexeme as Reads}
use Rattle.tu_token.specs.Words.{signs, words}

-- the text of a class, by its number
abbrev pub spelled_in : List (List ℕ × Class) → ℕ → List ℕ
spelled_in [] c = []
spelled_in (e ∷ es) c = if number e.1 == c then e.0 else spelled_in es c

abbrev pub or_else : List ℕ → List ℕ → List ℕ
or_else [] other = other
or_else (b ∷ text) other = b ∷ text

-- how a sign or word is spelled
abbrev pub spelling : ℕ → List ℕ
spelling c = or_else (spelled_in signs c) (spelled_in words c)

-- the text of a lexeme: its own, or the spelling of its sign or word
abbrev pub text_of : Lexeme → List ℕ
text_of x = cond (keeps_text x.0) x.1 (spelling x.0)

-- how many bytes the texts of lexemes have together
abbrev pub bytes_of : List Lexeme → ℕ
bytes_of xs = sum_by (λ x. length (text_of x)) xs

-- the spelling of each sign and word is read as it
abbrev pub IsReadAsSpelled : Type 0
IsReadAsSpelled = (class : Class) → keeps_text (number class) ≡ false → shape_of (spelling (number class)) ≡ Some (Reads class)
