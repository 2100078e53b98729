-- Where a source is not accepted as lexemes, and why.
use Rattle.std.specs.Prelude.{◌≡◌, ℕ, ◌+◌, ◌-◌, ◌*◌, ◌<◌, ◌≤◌, ◌⊎◌, Bool, true, false, not, ◌==◌, ◌&&◌, ◌||◌, nat_lt, List, [], ◌∷◌, length, take, drop, Option, Some, None, is_none, is_some}
use Rattle.std.specs.List.{prefix_len}
use Rattle.std.specs.Char.{is_ascii_digit}
use Rattle.tu_base.specs.declared.limits.TheConstants.{MOST_INT, MOST_NAME_BYTES, MOST_OPEN, MOST_TEXT_BYTES, MOST_TOKENS}
use Rattle.tu_token.specs.declared.class.Class.{Class}
use Rattle.tu_token.specs.declared.fault.LexError.{LexError}
use Rattle.tu_token.specs.declared.fault.LexError.TheVariants.{BadByte as bad_byte, BadNumber as bad_number, OpenText as open_text, LongText as long_text, OpenComment as open_comment, LongName as long_name, TooMany as too_many, TooDeep as too_deep}
use Rattle.tu_token.specs.Words.{single}
use Rattle.tu_token.specs.Scans.{comment_scan, text_scan, close_of, bad_place, contents}
use Rattle.tu_token.specs.Lexemes.{First, Slash, Quote, Digit, Letter, Other, first_of, is_name_byte, Shape, Separator, Lexeme, shape_of, IsPiece, IsSplit, size_of, line_after}
use Rattle.tu_token.specs.Nests.{Nest, no_nest, nest_after, depth}

-- the kinds of faults, in the order in which one goes before another at the same place
pub data FaultKind : Type 0 where
  BadByte : FaultKind
  BadNumber : FaultKind
  OpenText : FaultKind
  LongText : FaultKind
  OpenComment : FaultKind
  LongName : FaultKind
  TooMany : FaultKind
  TooDeep : FaultKind

abbrev pub rank : FaultKind → ℕ
rank BadByte = 0
rank BadNumber = 1
rank OpenText = 2
rank LongText = 3
rank OpenComment = 4
rank LongName = 5
rank TooMany = 6
rank TooDeep = 7

abbrev pub error_of : FaultKind → ℕ → LexError
error_of BadByte line = bad_byte line
error_of BadNumber line = bad_number line
error_of OpenText line = open_text line
error_of LongText line = long_text line
error_of OpenComment line = open_comment line
error_of LongName line = long_name line
error_of TooMany line = too_many line
error_of TooDeep line = too_deep line

-- how many tokens came before, and what is open
pub record Reading : Type 0 where
  pub count : ℕ
  pub nest : Nest

abbrev pub read_piece : Reading → Option Shape → Reading
read_piece reading None = reading
read_piece reading (Some Separator) = reading
read_piece reading (Some (Lexeme class)) = record { count = reading.count + 1; nest = nest_after reading.nest class }

abbrev pub reading_after : Reading → List (List ℕ) → Reading
reading_after reading [] = reading
reading_after reading (text ∷ pieces) = reading_after (read_piece reading (shape_of text)) pieces

abbrev pub begins : (ℕ → Bool) → List ℕ → Bool
begins test [] = false
begins test (b ∷ rest) = test b

-- a byte that begins no separator and no lexeme
abbrev pub begins_nothing : First → ℕ → List ℕ → Bool
begins_nothing Slash b rest = not (begins (λ c. c == 42) rest)
begins_nothing Other b rest = is_none (single b)
begins_nothing first b rest = false

abbrev pub begins_token : First → ℕ → Bool
begins_token Quote b = true
begins_token Digit b = true
begins_token Letter b = true
begins_token Other b = is_some (single b)
begins_token first b = false

-- the number that decimal digits spell, where those before them spell n
abbrev pub value_after : ℕ → List ℕ → ℕ
value_after n [] = n
value_after n (d ∷ digits) = value_after (10 * n + (d - 48)) digits

-- the decimal digits in front
abbrev pub digits_of : List ℕ → List ℕ
digits_of bytes = take (prefix_len is_ascii_digit bytes) bytes

-- a name or a fraction, which may not stand directly behind a number
abbrev pub goes_on : List ℕ → Bool
goes_on [] = false
goes_on (b ∷ rest) = is_name_byte b || ((b == 46) && begins is_ascii_digit rest)

abbrev pub is_bad_number : List ℕ → Bool
is_bad_number bytes = goes_on (drop (prefix_len is_ascii_digit bytes) bytes) || nat_lt MOST_INT (value_after 0 (digits_of bytes))

-- a text has more bytes than it may, where its closing quote is byte n behind the opening one
abbrev pub is_long_text : Option ℕ → List ℕ → Bool
is_long_text None body = false
is_long_text (Some n) body = nat_lt MOST_TEXT_BYTES (length (contents false (take (n - 1) body)))

abbrev pub bad_in_text : Option ℕ → List ℕ → Option ℕ
bad_in_text None body = None
bad_in_text (Some n) body = bad_place false 1 (take n body)

abbrev pub is_open_comment : List ℕ → Bool
is_open_comment [] = false
is_open_comment (b ∷ body) = (b == 42) && is_none (close_of comment_scan false body)

-- a fault of a kind other than the last two in what these bytes begin, at its first byte
abbrev pub is_malformed : FaultKind → First → ℕ → List ℕ → Bool
is_malformed BadByte first b rest = begins_nothing first b rest
is_malformed BadNumber Digit b rest = is_bad_number (b ∷ rest)
is_malformed OpenText Quote b rest = is_none (close_of text_scan false rest)
is_malformed LongText Quote b rest = is_long_text (close_of text_scan false rest) rest
is_malformed OpenComment Slash b rest = is_open_comment rest
is_malformed LongName Letter b rest = nat_lt MOST_NAME_BYTES (prefix_len is_name_byte (b ∷ rest))
is_malformed kind first b rest = false

-- the lexeme in front opens one construct more than may be open
pub record Deepens (nest : Nest) (source : List ℕ) : Type 0 where
  pub text : List ℕ
  pub class : Class
  pub piece : IsPiece text source
  pub shape : shape_of text ≡ Some (Lexeme class)
  pub deep : MOST_OPEN < depth (nest_after nest class)

-- A fault of a kind at an offset from the place where these bytes stand.
-- Only a byte or an escape that may not stand in a text has an offset that is not 0.
abbrev pub IsFault : Reading → FaultKind → ℕ → List ℕ → Type 0
IsFault reading kind offset [] = ⊥
IsFault reading BadByte offset (b ∷ rest) = ((offset ≡ 0) × (is_malformed BadByte (first_of b) b rest ≡ true)) ⊎ ((first_of b ≡ Quote) × (bad_in_text (close_of text_scan false rest) rest ≡ Some offset))
IsFault reading BadNumber offset (b ∷ rest) = (offset ≡ 0) × (is_malformed BadNumber (first_of b) b rest ≡ true)
IsFault reading OpenText offset (b ∷ rest) = (offset ≡ 0) × (is_malformed OpenText (first_of b) b rest ≡ true)
IsFault reading LongText offset (b ∷ rest) = (offset ≡ 0) × (is_malformed LongText (first_of b) b rest ≡ true)
IsFault reading OpenComment offset (b ∷ rest) = (offset ≡ 0) × (is_malformed OpenComment (first_of b) b rest ≡ true)
IsFault reading LongName offset (b ∷ rest) = (offset ≡ 0) × (is_malformed LongName (first_of b) b rest ≡ true)
IsFault reading TooMany offset (b ∷ rest) = (offset ≡ 0) × (reading.count ≡ MOST_TOKENS) × (begins_token (first_of b) b ≡ true)
IsFault reading TooDeep offset (b ∷ rest) = (offset ≡ 0) × Deepens reading.nest (b ∷ rest)

abbrev pub at_start : Reading
at_start = record { count = 0; nest = no_nest }

-- a source has a fault of a kind at a place, before which all is separators and lexemes
pub record HasFault (source : List ℕ) (kind : FaultKind) (place : ℕ) : Type 0 where
  pub pieces : List (List ℕ)
  pub rest : List ℕ
  pub offset : ℕ
  pub split : IsSplit pieces source rest
  pub fault : IsFault (reading_after at_start pieces) kind offset rest
  pub place_is : place ≡ size_of pieces + offset

-- a source has no lexical fault
abbrev pub HasNoFault : List ℕ → Type 0
HasNoFault source = (kind : FaultKind) (place : ℕ) → HasFault source kind place → ⊥

-- a lesser place, or at the same place a kind that goes before
abbrev pub GoesBefore : ℕ → FaultKind → ℕ → FaultKind → Type 0
GoesBefore place kind other_place other_kind = (place < other_place) ⊎ ((place ≡ other_place) × (rank kind ≤ rank other_kind))

-- the first fault of a source, with its line
pub record IsLexFault (source : List ℕ) (error : LexError) : Type 0 where
  pub kind : FaultKind
  pub place : ℕ
  pub fault : HasFault source kind place
  pub first : (k : FaultKind) (p : ℕ) → HasFault source k p → GoesBefore place kind p k
  pub error_is : error ≡ error_of kind (line_after 1 (take place source))
