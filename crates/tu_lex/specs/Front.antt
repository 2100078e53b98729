-- What stands in front of bytes, computed.
use Rattle.std.specs.Prelude.{ℕ, ◌+◌, Bool, false, ◌==◌, ◌&&◌, nat_lt, List, [], ◌∷◌, take, Option, Some, None, Result, Ok, Err, if◌then◌else◌}
use Rattle.std.specs.List.{prefix_len}
use Rattle.std.specs.Char.{is_ascii_digit}
use Rattle.tu_base.specs.declared.limits.TheConstants.{MOST_NAME_BYTES}
use Rattle.tu_token.specs.declared.class.Class.{Class}
use Rattle.tu_token.specs.declared.class.Class.TheVariants.{Number, SignNotEqual}
use Rattle.tu_token.specs.declared.fault.LexError.{LexError}
use Rattle.tu_token.specs.declared.fault.LexError.TheVariants.{BadByte, BadNumber, OpenText, LongText, OpenComment, LongName}
use Rattle.tu_token.specs.Words.{word_class, single, double}
use Rattle.tu_token.specs.Scans.{comment_scan, text_scan, close_of}
use Rattle.tu_token.specs.Lexemes.{First, White, Percent, Slash, Quote, Digit, Letter, Other, first_of, is_white, is_inside_line, is_name_byte}
use Rattle.tu_token.specs.LexFaults.{is_bad_number, is_long_text}
use Rattle.tu_lex.specs.declared.piece.Piece.{Piece}
use Rattle.tu_lex.specs.declared.piece.Piece.TheVariants.{Gap, Text, Lexeme}

abbrev pub begins_not_equal : List ℕ → Bool
begins_not_equal (a ∷ (b ∷ (c ∷ (d ∷ rest)))) = (a == 110) && ((b == 111) && ((c == 116) && (d == 61)))
begins_not_equal other = false

abbrev pub comment_by : ℕ → Option ℕ → Result Piece LexError
comment_by line None = Err (OpenComment line)
comment_by line (Some n) = Ok (Gap (n + 2))

abbrev pub comment_front : ℕ → List ℕ → Result Piece LexError
comment_front line [] = Err (BadByte line)
comment_front line (c ∷ body) = if c == 42 then comment_by line (close_of comment_scan false body) else Err (BadByte line)

abbrev pub text_by : ℕ → Option ℕ → List ℕ → Result Piece LexError
text_by line None body = Err (OpenText line)
text_by line (Some n) body = if is_long_text (Some n) body then Err (LongText line) else Ok (Text (n + 1))

abbrev pub number_front : ℕ → List ℕ → Result Piece LexError
number_front line bytes = if is_bad_number bytes then Err (BadNumber line) else Ok (Lexeme Number (prefix_len is_ascii_digit bytes))

abbrev pub word_front : ℕ → List ℕ → Result Piece LexError
word_front line bytes =
    if nat_lt MOST_NAME_BYTES (prefix_len is_name_byte bytes) then Err (LongName line)
    else if begins_not_equal bytes then Ok (Lexeme SignNotEqual 4)
    else Ok (Lexeme (word_class (take (prefix_len is_name_byte bytes) bytes)) (prefix_len is_name_byte bytes))

abbrev pub single_front : ℕ → Option Class → Result Piece LexError
single_front line None = Err (BadByte line)
single_front line (Some class) = Ok (Lexeme class 1)

abbrev pub double_front : ℕ → Option Class → Option Class → Result Piece LexError
double_front line (Some class) one = Ok (Lexeme class 2)
double_front line None one = single_front line one

abbrev pub sign_front : ℕ → ℕ → List ℕ → Result Piece LexError
sign_front line b [] = single_front line (single b)
sign_front line b (c ∷ rest) = double_front line (double b c) (single b)

abbrev pub front_from : ℕ → First → ℕ → List ℕ → Result Piece LexError
front_from line White b rest = Ok (Gap (prefix_len is_white (b ∷ rest)))
front_from line Percent b rest = Ok (Gap (prefix_len is_inside_line (b ∷ rest)))
front_from line Slash b rest = comment_front line rest
front_from line Quote b rest = text_by line (close_of text_scan false rest) rest
front_from line Digit b rest = number_front line (b ∷ rest)
front_from line Letter b rest = word_front line (b ∷ rest)
front_from line Other b rest = sign_front line b rest

-- the longest piece in front, or the first fault of what begins there, on this line
abbrev pub front : ℕ → List ℕ → Result Piece LexError
front line [] = Ok (Gap 0)
front line (b ∷ rest) = front_from line (first_of b) b rest
