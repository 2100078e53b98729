-- A source as separators and lexemes, and the tokens that it is.
use Rattle.std.specs.Prelude.{◌≡◌, ℕ, ◌+◌, ◌<◌, ◌≤◌, Bool, false, not, ◌==◌, ◌&&◌, ◌||◌, List, [], ◌∷◌, ◌++◌, length, take, drop, Option, Some, None, is_none, IsSome, if◌then◌else◌, codes}
use Rattle.std.specs.List.{list_all, count_by}
use Rattle.std.specs.Char.{is_ascii_digit, is_ascii_alphabetic, is_ascii_alphanumeric}
use Rattle.std.specs.Str.{bytes_eq}
use Rattle.tu_token.specs.declared.class.Class.{Class}
use Rattle.tu_token.specs.declared.class.Class.TheVariants.{Number, Text, SignNotEqual}
use Rattle.tu_token.specs.declared.token.Token.{Token}
use Rattle.tu_token.specs.TokenList.{TokenList}
use Rattle.tu_token.specs.Words.{word_class, single, double}
use Rattle.tu_token.specs.Scans.{comment_scan, text_scan, closes_last, bad_place}

-- a tab, a line end, a carriage return or a blank
abbrev pub is_white : ℕ → Bool
is_white b = (b == 9) || ((b == 10) || ((b == 13) || (b == 32)))

abbrev pub is_line_end : ℕ → Bool
is_line_end b = b == 10

abbrev pub is_inside_line : ℕ → Bool
is_inside_line b = not (b == 10)

-- a letter, a digit or `_`
abbrev pub is_name_byte : ℕ → Bool
is_name_byte b = is_ascii_alphanumeric b || (b == 95)

-- what may begin with a byte: white space, the two comments, a text, a number, a name or word, or a sign
pub data First : Type 0 where
  White : First
  Percent : First
  Slash : First
  Quote : First
  Digit : First
  Letter : First
  Other : First

abbrev pub first_of : ℕ → First
first_of b =
    if is_white b then White
    else if b == 37 then Percent
    else if b == 47 then Slash
    else if b == 34 then Quote
    else if is_ascii_digit b then Digit
    else if is_ascii_alphabetic b then Letter
    else Other

-- a separator, or the lexeme of a token
pub data Shape : Type 0 where
  Separator : Shape
  Lexeme : (class : Class) → Shape

abbrev pub as_lexeme : Option Class → Option Shape
as_lexeme None = None
as_lexeme (Some class) = Some (Lexeme class)

abbrev pub comment_shape : List ℕ → Option Shape
comment_shape [] = None
comment_shape (b ∷ body) = if (b == 42) && closes_last comment_scan body then Some Separator else None

abbrev pub sign_shape : ℕ → List ℕ → Option Shape
sign_shape b [] = as_lexeme (single b)
sign_shape b (c ∷ []) = as_lexeme (double b c)
sign_shape b (c ∷ (d ∷ rest)) = None

abbrev pub word_shape : List ℕ → Option Shape
word_shape text =
    if list_all is_name_byte text then Some (Lexeme (word_class text))
    else if bytes_eq text (codes "not=") then Some (Lexeme SignNotEqual)
    else None

-- white space: some separators in a row. `%`: up to the line's end. `/*`: up to the first `*/`.
-- A text: from its quote to the closing one, of bytes that may stand there and known escapes.
abbrev pub shape_from : First → ℕ → List ℕ → Option Shape
shape_from White b rest = if list_all is_white rest then Some Separator else None
shape_from Percent b rest = if list_all is_inside_line rest then Some Separator else None
shape_from Slash b rest = comment_shape rest
shape_from Quote b rest = if closes_last text_scan rest && is_none (bad_place false 1 rest) then Some (Lexeme Text) else None
shape_from Digit b rest = if list_all is_ascii_digit rest then Some (Lexeme Number) else None
shape_from Letter b rest = word_shape (b ∷ rest)
shape_from Other b rest = sign_shape b rest

-- what these bytes are as a whole, if they are a separator or a lexeme
abbrev pub shape_of : List ℕ → Option Shape
shape_of [] = None
shape_of (b ∷ rest) = shape_from (first_of b) b rest

-- a separator or lexeme in front of a source, the longest there
pub record IsPiece (text source : List ℕ) : Type 0 where
  pub front : take (length text) source ≡ text
  pub shaped : IsSome (shape_of text)
  pub longest : (n : ℕ) → length text < n → n ≤ length source → shape_of (take n source) ≡ None

-- the source is these pieces, one after the other, and then this rest
abbrev pub IsSplit : List (List ℕ) → List ℕ → List ℕ → Type 0
IsSplit [] source rest = source ≡ rest
IsSplit (text ∷ pieces) source rest = IsPiece text source × IsSplit pieces (drop (length text) source) rest

-- how many bytes pieces have
abbrev pub size_of : List (List ℕ) → ℕ
size_of [] = 0
size_of (text ∷ pieces) = length text + size_of pieces

-- the line behind these bytes, where they begin at a line
abbrev pub line_after : ℕ → List ℕ → ℕ
line_after line bytes = line + count_by is_line_end bytes

abbrev pub token_of : ℕ → ℕ → List ℕ → Option Shape → List Token
token_of start line text None = []
token_of start line text (Some Separator) = []
token_of start line text (Some (Lexeme class)) = record { class = class; text = text; start = start; length = length text; line = line } ∷ []

-- the lexemes among pieces, in order, where the first piece stands at this place and line
abbrev pub tokens_of : ℕ → ℕ → List (List ℕ) → List Token
tokens_of start line [] = []
tokens_of start line (text ∷ pieces) = token_of start line text (shape_of text) ++ tokens_of (start + length text) (line_after line text) pieces

-- the source is separators and lexemes, each the longest at its place, and these tokens are its lexemes
pub record IsLexed (source : List ℕ) (tokens : TokenList) : Type 0 where
  pub pieces : List (List ℕ)
  pub split : IsSplit pieces source []
  pub items : tokens.items ≡ tokens_of 0 1 pieces
  pub start : tokens.start ≡ length source
  pub line : tokens.line ≡ line_after 1 source
