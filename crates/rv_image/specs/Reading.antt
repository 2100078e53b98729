-- What bytes are read as.
use Rattle.std.specs.Prelude.{◌≡◌, ℕ, ◌+◌, ◌*◌, ◌%◌, List, [], ◌∷◌, length, drop, slice_index, Result, Ok, Err, ◌==◌, nat_lt, ◌&&◌, not, if◌then◌else◌}
use Rattle.tu_base.specs.declared.limits.TheConstants.{MOST_GLOBAL_WORDS}
use Rattle.rv_image.specs.Picture.{Picture}
use Rattle.rv_image.specs.declared.image.ImageError.{ImageError}
use Rattle.rv_image.specs.declared.image.ImageError.TheVariants.{Size, Short, Magic, Version, Length, Entry, Globals, Memory}

-- the number of four bytes, the lowest first
abbrev pub value : ℕ → ℕ → ℕ → ℕ → ℕ
value a b c d = a + 256 * b + 65536 * c + 16777216 * d

-- the number of the four bytes from i on
abbrev pub number_at : List ℕ → ℕ → ℕ
number_at bytes i = value (slice_index bytes i) (slice_index bytes (i + 1)) (slice_index bytes (i + 2)) (slice_index bytes (i + 3))

-- the number of each four bytes
abbrev pub words_of : List ℕ → List ℕ
words_of (a ∷ (b ∷ (c ∷ (d ∷ rest)))) = value a b c d ∷ words_of rest
words_of _ = []

-- the bytes TURI as a number
abbrev pub magic : ℕ
magic = 0x49525554

-- the numbers of a header
abbrev pub text_words : List ℕ → ℕ
text_words bytes = number_at bytes 8

abbrev pub global_words : List ℕ → ℕ
global_words bytes = number_at bytes 12

abbrev pub entry_offset : List ℕ → ℕ
entry_offset bytes = number_at bytes 16

-- what a header and the bytes behind it say, whether or not it is in range
abbrev pub picture : List ℕ → Picture
picture bytes = record { text = words_of (drop 20 bytes); globals = global_words bytes; entry = entry_offset bytes }

-- the first condition that fails, or the image
abbrev pub reading : List ℕ → Result Picture ImageError
reading bytes =
    if nat_lt 67108884 (length bytes) then Err Size
    else if nat_lt (length bytes) 20 then Err Short
    else if not (number_at bytes 0 == magic) then Err Magic
    else if not (number_at bytes 4 == 1) then Err Version
    else if not (length bytes == 20 + 4 * text_words bytes) then Err Length
    else if not (entry_offset bytes % 4 == 0 && nat_lt (entry_offset bytes) (4 * text_words bytes)) then Err Entry
    else if nat_lt MOST_GLOBAL_WORDS (global_words bytes) then Err Globals
    else Ok (picture bytes)

-- what was answered is what is read, unless memory ran out
abbrev pub Gives : Result Picture ImageError → Result Picture ImageError → Type 0
Gives (Ok p) read = read ≡ Ok p
Gives (Err Memory) read = Unit {0}
Gives (Err Size) read = read ≡ Err Size
Gives (Err Short) read = read ≡ Err Short
Gives (Err Magic) read = read ≡ Err Magic
Gives (Err Version) read = read ≡ Err Version
Gives (Err Length) read = read ≡ Err Length
Gives (Err Entry) read = read ≡ Err Entry
Gives (Err Globals) read = read ≡ Err Globals
