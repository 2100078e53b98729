-- An image and its bytes.
use Rattle.std.specs.Prelude.{◌≡◌, ℕ, ◌*◌, ◌/◌, ◌%◌, ◌<◌, ◌≤◌, List, [], ◌∷◌, ◌++◌, length}
use Rattle.tu_base.specs.declared.limits.TheConstants.{MOST_GLOBAL_WORDS, MOST_TEXT_WORDS}

-- the words of the text, how many words of globals there are, and where the first instruction lies, in bytes from the text's start
pub record Picture : Type 0 where
  pub text : List ℕ
  pub globals : ℕ
  pub entry : ℕ

-- a number in four bytes, the lowest first
abbrev pub number : ℕ → List ℕ
number n = n % 256 ∷ (n / 256 % 256 ∷ (n / 65536 % 256 ∷ (n / 16777216 ∷ [])))

-- each number in four bytes, in order
abbrev pub numbers : List ℕ → List ℕ
numbers [] = []
numbers (n ∷ ns) = number n ++ numbers ns

-- TURI, the version 1, the numbers of text words and of global words, the entry, and the text
abbrev pub spelling : Picture → List ℕ
spelling p = 84 ∷ (85 ∷ (82 ∷ (73 ∷ (number 1 ++ (number (length p.text) ++ (number p.globals ++ (number p.entry ++ numbers p.text)))))))

-- at most 16,777,216 words of text and 4,259,840 words of globals, and the entry is the place of a word of the text
pub record InRange (p : Picture) : Type 0 where
  pub size : length p.text ≤ MOST_TEXT_WORDS
  pub aligned : p.entry % 4 ≡ 0
  pub within : p.entry < 4 * length p.text
  pub globals : p.globals ≤ MOST_GLOBAL_WORDS

-- the bytes are exactly the header and the text of the image
abbrev pub IsImage : List ℕ → Picture → Type 0
IsImage bytes p = (bytes ≡ spelling p) × InRange p
