-- Runs of bytes that end at a closing one: comments and texts.
use Rattle.std.specs.Prelude.{ℕ, ◌+◌, ◌-◌, Bool, true, false, ◌==◌, ◌&&◌, ◌||◌, nat_le, List, [], ◌∷◌, length, take, drop, Option, Some, None, if◌then◌else◌}

-- what a byte does to the run in which it stands; marked is behind a byte that changes the meaning of the next one
pub data Scan : Type 0 where
  Closes : Scan
  Fails : Scan
  Goes : (marked : Bool) → Scan

-- behind a `/*`; a `*` marks the byte behind it
abbrev pub comment_scan : Bool → ℕ → Scan
comment_scan marked b = if marked && (b == 47) then Closes else Goes (b == 42)

-- behind the quote that opens a text; a `\` marks the byte behind it
abbrev pub text_scan : Bool → ℕ → Scan
text_scan marked b = if b == 10 then Fails else if marked then Goes false else if b == 34 then Closes else Goes (b == 92)

abbrev pub one_more : Option ℕ → Option ℕ
one_more None = None
one_more (Some n) = Some (1 + n)

abbrev pub closed_by : Scan → (Bool → Option ℕ) → Option ℕ
closed_by Closes rest = Some 1
closed_by Fails rest = None
closed_by (Goes marked) rest = one_more (rest marked)

-- how many bytes there are up to the closing one, and with it
abbrev pub close_of : (Bool → ℕ → Scan) → Bool → List ℕ → Option ℕ
close_of scan marked [] = None
close_of scan marked (b ∷ rest) = closed_by (scan marked b) (λ m. close_of scan m rest)

abbrev pub is_number : Option ℕ → ℕ → Bool
is_number None n = false
is_number (Some m) n = m == n

-- the run closes with its last byte
abbrev pub closes_last : (Bool → ℕ → Scan) → List ℕ → Bool
closes_last scan bytes = is_number (close_of scan false bytes) (length bytes)

-- a byte that may stand in a text, a `\` before an escape among them
abbrev pub is_text_byte : ℕ → Bool
is_text_byte b = (b == 9) || ((nat_le 32 b && nat_le b 126) || nat_le 128 b)

-- `n`, `t`, a quote or `\`
abbrev pub is_escape : ℕ → Bool
is_escape b = (b == 110) || ((b == 116) || ((b == 34) || (b == 92)))

-- the place of the first byte of a text that may not stand there, or of the `\` of the first unknown escape, where the first of these bytes stands at a place
abbrev pub bad_place : Bool → ℕ → List ℕ → Option ℕ
bad_place marked place [] = None
bad_place true place (b ∷ rest) = if is_escape b then bad_place false (place + 1) rest else Some (place - 1)
bad_place false place (b ∷ rest) = if is_text_byte b then bad_place (b == 92) (place + 1) rest else Some place

-- the byte that `\` and this byte stand for
abbrev pub escaped : ℕ → ℕ
escaped b = if b == 110 then 10 else if b == 116 then 9 else b

-- the bytes that a text stands for, from what is written between its quotes
abbrev pub contents : Bool → List ℕ → List ℕ
contents marked [] = []
contents true (b ∷ rest) = escaped b ∷ contents false rest
contents false (b ∷ rest) = if b == 92 then contents true rest else b ∷ contents false rest

-- the bytes that the text of a token stands for, without its quotes
abbrev pub literal_of : List ℕ → List ℕ
literal_of text = contents false (take (length text - 2) (drop 1 text))
