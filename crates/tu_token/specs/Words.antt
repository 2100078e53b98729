-- The signs and the reserved words.
use Rattle.std.specs.Prelude.{ℕ, List, [], ◌∷◌, Option, Some, None, ◌==◌, ◌&&◌, if◌then◌else◌, map, unwrap_or}
use Rattle.std.specs.Str.{bytes_eq}
use Rattle.tu_token.specs.declared.class.Class.{Class}
use Rattle.tu_token.specs.declared.class.Class.TheVariants.{Name}
use Rattle.tu_token.specs.declared.words.TheConstants.{SIGNS, WORDS}

-- the entry of a text
abbrev pub entry : {A : Type 0} → List (List ℕ × A) → List ℕ → Option A
entry [] text = None
entry (e ∷ es) text = if bytes_eq text e.0 then Some e.1 else entry es text

-- the reserved words with their classes, as the program has them
unfoldable pub words : List (List ℕ × Class)
words = map (λ e. (e.0.now, e.1)) WORDS

-- the signs with their classes, and `not=`
abbrev pub signs : List (List ℕ × Class)
signs = map (λ e. (e.0.now, e.1)) SIGNS

-- the class of a word: a reserved word, or else a name
abbrev pub word_class : List ℕ → Class
word_class text = unwrap_or (entry words text) Name

abbrev pub of_one_byte : List (List ℕ × Class) → ℕ → Option Class
of_one_byte [] b = None
of_one_byte ((x ∷ [], class) ∷ es) b = if b == x then Some class else of_one_byte es b
of_one_byte (e ∷ es) b = of_one_byte es b

abbrev pub of_two_bytes : List (List ℕ × Class) → ℕ → ℕ → Option Class
of_two_bytes [] b c = None
of_two_bytes ((x ∷ (y ∷ []), class) ∷ es) b c = if (b == x) && (c == y) then Some class else of_two_bytes es b c
of_two_bytes (e ∷ es) b c = of_two_bytes es b c

-- the sign that is this byte
abbrev pub single : ℕ → Option Class
single b = of_one_byte signs b

-- the sign that is these two bytes
abbrev pub double : ℕ → ℕ → Option Class
double b c = of_two_bytes signs b c
