-- The first fault of what begins at a byte, and that there is none where a piece is found.
use Rattle.std.proofs.Common.{◌≡◌, ℕ, suc, ◌+◌, ◌≤◌, true, false, cond, eqb, nat_lt, List, [], ◌∷◌, take, refl, subst, arith}
use Rattle.std.specs.Prelude.{Option, Some, None, is_none, is_some, Result, Ok, Err}
use Rattle.std.specs.List.{prefix_len}
use Rattle.std.specs.Char.{is_ascii_digit, is_ascii_alphabetic}
use Rattle.std.proofs.lemmas.Bool.{eqb-true}
use Rattle.tu_token.specs.declared.class.Class.{Class}
use Rattle.tu_token.specs.declared.class.Class.TheVariants.{Number, SignNotEqual}
use Rattle.tu_token.specs.declared.fault.LexError.{LexError}
use Rattle.tu_token.specs.declared.fault.LexError.TheVariants.{BadByte as bad_byte, BadNumber as bad_number, OpenText as open_text, LongText as long_text, OpenComment as open_comment, LongName as long_name}
use Rattle.tu_token.specs.Words.{word_class, single, double}
use Rattle.tu_token.specs.Scans.{comment_scan, text_scan, close_of}
use Rattle.tu_token.specs.Lexemes.{First, White, Percent, Slash, Quote, Digit, Letter, Other, is_white, is_inside_line, is_name_byte, Separator, Lexeme}
use Rattle.tu_token.specs.LexFaults.{FaultKind, BadByte, BadNumber, OpenText, LongText, OpenComment, LongName, TooMany, TooDeep, rank, error_of, is_malformed, begins_token, is_bad_number, is_long_text}
use Rattle.tu_lex.specs.declared.piece.Piece.{Piece}
use Rattle.tu_lex.specs.declared.piece.Piece.TheVariants.{Gap, Text, Lexeme as piece_lexeme}
use Rattle.tu_lex.specs.Front.{begins_not_equal, comment_by, text_by, single_front, double_front, front_from}
use Rattle.tu_lex.proofs.Prefix.{prefix_more}
use Rattle.tu_lex.proofs.Pieces.{FirstIs, IsFront, white_longest, line_longest, digits_longest, comment_longest, double_longest, alone_longest, single_longest, not_equal_is, not_equal_longest, word_longest, letter_is_name}

-- what is known where a piece is found
abbrev pub FrontIs : First → ℕ → List ℕ → Piece → Type 0
FrontIs f b rest (Gap n) = IsFront f b rest n Separator × (begins_token f b ≡ false) × (f ≡ Quote → ⊥)
FrontIs f b rest (Text n) = (f ≡ Quote) × (m : ℕ) × (n ≡ m + 1) × (close_of text_scan false rest ≡ Some m)
FrontIs f b rest (piece_lexeme c n) = IsFront f b rest n (Lexeme c) × (begins_token f b ≡ true) × (f ≡ Quote → ⊥)

abbrev pub IsClean : First → ℕ → List ℕ → Type 0
IsClean f b rest = (k : FaultKind) → is_malformed k f b rest ≡ false

-- the first fault, by its kind
pub record FirstFault (f : First) (line b : ℕ) (rest : List ℕ) (e : LexError) : Type 0 where
  pub kind : FaultKind
  pub error : e ≡ error_of kind line
  pub malformed : is_malformed kind f b rest ≡ true
  pub least : (k : FaultKind) → is_malformed k f b rest ≡ true → rank kind ≤ rank k
  pub low : rank kind ≤ 5

-- what is found in front
pub data Found (f : First) (line b : ℕ) (rest : List ℕ) : Result Piece LexError → Type 0 where
  Piece_found : (p : Piece) → FrontIs f b rest p → IsClean f b rest → Found f line b rest (Ok p)
  Fault_found : (e : LexError) → FirstFault f line b rest e → Found f line b rest (Err e)

white_clean : (b : ℕ) (rest : List ℕ) → IsClean White b rest
white_clean b rest BadByte = refl
white_clean b rest BadNumber = refl
white_clean b rest OpenText = refl
white_clean b rest LongText = refl
white_clean b rest OpenComment = refl
white_clean b rest LongName = refl
white_clean b rest TooMany = refl
white_clean b rest TooDeep = refl

line_clean : (b : ℕ) (rest : List ℕ) → IsClean Percent b rest
line_clean b rest BadByte = refl
line_clean b rest BadNumber = refl
line_clean b rest OpenText = refl
line_clean b rest LongText = refl
line_clean b rest OpenComment = refl
line_clean b rest LongName = refl
line_clean b rest TooMany = refl
line_clean b rest TooDeep = refl

comment_clean : (b c : ℕ) (body : List ℕ) (n : ℕ) → eqb c 42 ≡ true → close_of comment_scan false body ≡ Some n → IsClean Slash b (c ∷ body)
comment_clean b c body n e f BadByte = rw e refl
comment_clean b c body n e f BadNumber = refl
comment_clean b c body n e f OpenText = refl
comment_clean b c body n e f LongText = refl
comment_clean b c body n e f OpenComment = rw (e, f) refl
comment_clean b c body n e f LongName = refl
comment_clean b c body n e f TooMany = refl
comment_clean b c body n e f TooDeep = refl

text_clean : (b : ℕ) (rest : List ℕ) (n : ℕ) → close_of text_scan false rest ≡ Some n → is_long_text (Some n) rest ≡ false → IsClean Quote b rest
text_clean b rest n f e BadByte = refl
text_clean b rest n f e BadNumber = refl
text_clean b rest n f e OpenText = rw f refl
text_clean b rest n f e LongText = rw f e
text_clean b rest n f e OpenComment = refl
text_clean b rest n f e LongName = refl
text_clean b rest n f e TooMany = refl
text_clean b rest n f e TooDeep = refl

number_clean : (b : ℕ) (rest : List ℕ) → is_bad_number (b ∷ rest) ≡ false → IsClean Digit b rest
number_clean b rest e BadByte = refl
number_clean b rest e BadNumber = e
number_clean b rest e OpenText = refl
number_clean b rest e LongText = refl
number_clean b rest e OpenComment = refl
number_clean b rest e LongName = refl
number_clean b rest e TooMany = refl
number_clean b rest e TooDeep = refl

word_clean : (b : ℕ) (rest : List ℕ) → nat_lt 50 (prefix_len is_name_byte (b ∷ rest)) ≡ false → IsClean Letter b rest
word_clean b rest e BadByte = refl
word_clean b rest e BadNumber = refl
word_clean b rest e OpenText = refl
word_clean b rest e LongText = refl
word_clean b rest e OpenComment = refl
word_clean b rest e LongName = e
word_clean b rest e TooMany = refl
word_clean b rest e TooDeep = refl

sign_clean : (b : ℕ) (rest : List ℕ) → is_none (single b) ≡ false → IsClean Other b rest
sign_clean b rest e BadByte = e
sign_clean b rest e BadNumber = refl
sign_clean b rest e OpenText = refl
sign_clean b rest e LongText = refl
sign_clean b rest e OpenComment = refl
sign_clean b rest e LongName = refl
sign_clean b rest e TooMany = refl
sign_clean b rest e TooDeep = refl

slash_bad_least : (b : ℕ) (rest : List ℕ) → is_malformed BadByte Slash b rest ≡ true → (k : FaultKind) → is_malformed k Slash b rest ≡ true → 0 ≤ rank k
slash_bad_least b rest e BadByte h = omega arith
slash_bad_least b rest e BadNumber h = omega arith
slash_bad_least b rest e OpenText h = omega arith
slash_bad_least b rest e LongText h = omega arith
slash_bad_least b rest e OpenComment h = omega arith
slash_bad_least b rest e LongName h = omega arith
slash_bad_least b rest e TooMany h = omega arith
slash_bad_least b rest e TooDeep h = omega arith

slash_bad : (b : ℕ) (rest : List ℕ) → is_malformed BadByte Slash b rest ≡ true → (line : ℕ) → FirstFault Slash line b rest (error_of BadByte line)
slash_bad b rest e line = record { kind = BadByte; error = refl; malformed = e; least = slash_bad_least b rest e; low = omega arith }

comment_open_least : (b c : ℕ) (body : List ℕ) → eqb c 42 ≡ true → ◌≡◌ {A = Option ℕ} (close_of comment_scan false body) None → (k : FaultKind) → is_malformed k Slash b (c ∷ body) ≡ true → 4 ≤ rank k
comment_open_least b c body e f BadByte h = absurd (let q : is_malformed BadByte Slash b (c ∷ body) ≡ false = rw e refl in cc)
comment_open_least b c body e f BadNumber h = absurd (cc)
comment_open_least b c body e f OpenText h = absurd (cc)
comment_open_least b c body e f LongText h = absurd (cc)
comment_open_least b c body e f OpenComment h = omega arith
comment_open_least b c body e f LongName h = omega arith
comment_open_least b c body e f TooMany h = omega arith
comment_open_least b c body e f TooDeep h = omega arith

comment_open : (b c : ℕ) (body : List ℕ) → eqb c 42 ≡ true → ◌≡◌ {A = Option ℕ} (close_of comment_scan false body) None → (line : ℕ) → FirstFault Slash line b (c ∷ body) (error_of OpenComment line)
comment_open b c body e f line = record { kind = OpenComment; error = refl; malformed = rw (e, f) refl; least = comment_open_least b c body e f; low = omega arith }

text_open_least : (b : ℕ) (rest : List ℕ) → ◌≡◌ {A = Option ℕ} (close_of text_scan false rest) None → (k : FaultKind) → is_malformed k Quote b rest ≡ true → 2 ≤ rank k
text_open_least b rest f BadByte h = absurd (cc)
text_open_least b rest f BadNumber h = absurd (cc)
text_open_least b rest f OpenText h = omega arith
text_open_least b rest f LongText h = omega arith
text_open_least b rest f OpenComment h = omega arith
text_open_least b rest f LongName h = omega arith
text_open_least b rest f TooMany h = omega arith
text_open_least b rest f TooDeep h = omega arith

text_open : (b : ℕ) (rest : List ℕ) → ◌≡◌ {A = Option ℕ} (close_of text_scan false rest) None → (line : ℕ) → FirstFault Quote line b rest (error_of OpenText line)
text_open b rest f line = record { kind = OpenText; error = refl; malformed = rw f refl; least = text_open_least b rest f; low = omega arith }

text_long_least : (b : ℕ) (rest : List ℕ) (n : ℕ) → close_of text_scan false rest ≡ Some n → is_long_text (Some n) rest ≡ true → (k : FaultKind) → is_malformed k Quote b rest ≡ true → 3 ≤ rank k
text_long_least b rest n f e BadByte h = absurd (cc)
text_long_least b rest n f e BadNumber h = absurd (cc)
text_long_least b rest n f e OpenText h = absurd (let q : is_malformed OpenText Quote b rest ≡ false = rw f refl in cc)
text_long_least b rest n f e LongText h = omega arith
text_long_least b rest n f e OpenComment h = omega arith
text_long_least b rest n f e LongName h = omega arith
text_long_least b rest n f e TooMany h = omega arith
text_long_least b rest n f e TooDeep h = omega arith

text_long : (b : ℕ) (rest : List ℕ) (n : ℕ) → close_of text_scan false rest ≡ Some n → is_long_text (Some n) rest ≡ true → (line : ℕ) → FirstFault Quote line b rest (error_of LongText line)
text_long b rest n f e line = record { kind = LongText; error = refl; malformed = rw f e; least = text_long_least b rest n f e; low = omega arith }

number_bad_least : (b : ℕ) (rest : List ℕ) → is_bad_number (b ∷ rest) ≡ true → (k : FaultKind) → is_malformed k Digit b rest ≡ true → 1 ≤ rank k
number_bad_least b rest e BadByte h = absurd (cc)
number_bad_least b rest e BadNumber h = omega arith
number_bad_least b rest e OpenText h = omega arith
number_bad_least b rest e LongText h = omega arith
number_bad_least b rest e OpenComment h = omega arith
number_bad_least b rest e LongName h = omega arith
number_bad_least b rest e TooMany h = omega arith
number_bad_least b rest e TooDeep h = omega arith

number_bad : (b : ℕ) (rest : List ℕ) → is_bad_number (b ∷ rest) ≡ true → (line : ℕ) → FirstFault Digit line b rest (error_of BadNumber line)
number_bad b rest e line = record { kind = BadNumber; error = refl; malformed = e; least = number_bad_least b rest e; low = omega arith }

name_long_least : (b : ℕ) (rest : List ℕ) → nat_lt 50 (prefix_len is_name_byte (b ∷ rest)) ≡ true → (k : FaultKind) → is_malformed k Letter b rest ≡ true → 5 ≤ rank k
name_long_least b rest e BadByte h = absurd (cc)
name_long_least b rest e BadNumber h = absurd (cc)
name_long_least b rest e OpenText h = absurd (cc)
name_long_least b rest e LongText h = absurd (cc)
name_long_least b rest e OpenComment h = absurd (cc)
name_long_least b rest e LongName h = omega arith
name_long_least b rest e TooMany h = omega arith
name_long_least b rest e TooDeep h = omega arith

name_long : (b : ℕ) (rest : List ℕ) → nat_lt 50 (prefix_len is_name_byte (b ∷ rest)) ≡ true → (line : ℕ) → FirstFault Letter line b rest (error_of LongName line)
name_long b rest e line = record { kind = LongName; error = refl; malformed = e; least = name_long_least b rest e; low = omega arith }

sign_bad_least : (b : ℕ) (rest : List ℕ) → is_none (single b) ≡ true → (k : FaultKind) → is_malformed k Other b rest ≡ true → 0 ≤ rank k
sign_bad_least b rest e BadByte h = omega arith
sign_bad_least b rest e BadNumber h = omega arith
sign_bad_least b rest e OpenText h = omega arith
sign_bad_least b rest e LongText h = omega arith
sign_bad_least b rest e OpenComment h = omega arith
sign_bad_least b rest e LongName h = omega arith
sign_bad_least b rest e TooMany h = omega arith
sign_bad_least b rest e TooDeep h = omega arith

sign_bad : (b : ℕ) (rest : List ℕ) → is_none (single b) ≡ true → (line : ℕ) → FirstFault Other line b rest (error_of BadByte line)
sign_bad b rest e line = record { kind = BadByte; error = refl; malformed = e; least = sign_bad_least b rest e; low = omega arith }

-- a sign of two bytes begins with a sign
double_single : (b c : ℕ) (class : Class) → double b c ≡ Some class → is_none (single b) ≡ false
double_single b c class e = grind arith

some_of : (o : Option Class) → is_none o ≡ false → is_some o ≡ true
some_of None e = absurd (cc)
some_of (Some c) e = refl

white_found : (line b : ℕ) (rest : List ℕ) → is_white b ≡ true → Found White line b rest (front_from line White b rest)
white_found line b rest h = Piece_found (Gap (prefix_len is_white (b ∷ rest)))
    (record { more = prefix_len is_white rest; count = prefix_more is_white b rest h; longest = white_longest b rest }, refl, λ e. absurd (cc)) (white_clean b rest)

line_found : (line b : ℕ) (rest : List ℕ) → b ≡ 37 → Found Percent line b rest (front_from line Percent b rest)
line_found line b rest h =
    let i : is_inside_line b ≡ true = rw h refl in
    Piece_found (Gap (prefix_len is_inside_line (b ∷ rest)))
    (record { more = prefix_len is_inside_line rest; count = prefix_more is_inside_line b rest i; longest = line_longest b rest }, refl, λ e. absurd (cc)) (line_clean b rest)

comment_found : (line b : ℕ) (rest : List ℕ) → Found Slash line b rest (front_from line Slash b rest)
comment_found line b [] = Fault_found (bad_byte line) (slash_bad b [] refl line)
comment_found line b (c ∷ body) =
    elim (eqb c 42) as (λ t. eqb c 42 ≡ t → Found Slash line b (c ∷ body) (cond t (comment_by line (close_of comment_scan false body)) (Err (bad_byte line)))) [
      | false ↦ λ e. Fault_found (bad_byte line) (slash_bad b (c ∷ body) (rw e refl) line)
      | true ↦ λ e. elim (close_of comment_scan false body) as (λ o. close_of comment_scan false body ≡ o → Found Slash line b (c ∷ body) (comment_by line o)) [
        | None ↦ λ f. Fault_found (open_comment line) (comment_open b c body e f line)
        | Some n ↦ λ f.
            let is : c ≡ 42 = eqb-true c 42 e in
            Piece_found (Gap (n + 2))
            (record { more = suc n; count = omega arith; longest = rw is (comment_longest b body n f) }, refl, λ q. absurd (cc)) (comment_clean b c body n e f)
      ] refl
    ] refl

text_found : (line b : ℕ) (rest : List ℕ) → Found Quote line b rest (front_from line Quote b rest)
text_found line b rest =
    elim (close_of text_scan false rest) as (λ o. close_of text_scan false rest ≡ o → Found Quote line b rest (text_by line o rest)) [
      | None ↦ λ f. Fault_found (open_text line) (text_open b rest f line)
      | Some n ↦ λ f. elim (is_long_text (Some n) rest) as (λ t. is_long_text (Some n) rest ≡ t → Found Quote line b rest (cond t (Err (long_text line)) (Ok (Text (n + 1))))) [
        | true ↦ λ e. Fault_found (long_text line) (text_long b rest n f e line)
        | false ↦ λ e. Piece_found (Text (n + 1)) (refl, n, refl, f) (text_clean b rest n f e)
      ] refl
    ] refl

number_found : (line b : ℕ) (rest : List ℕ) → is_ascii_digit b ≡ true → Found Digit line b rest (front_from line Digit b rest)
number_found line b rest h =
    elim (is_bad_number (b ∷ rest)) as (λ t. is_bad_number (b ∷ rest) ≡ t → Found Digit line b rest (cond t (Err (bad_number line)) (Ok (piece_lexeme Number (prefix_len is_ascii_digit (b ∷ rest)))))) [
      | true ↦ λ e. Fault_found (bad_number line) (number_bad b rest e line)
      | false ↦ λ e. Piece_found (piece_lexeme Number (prefix_len is_ascii_digit (b ∷ rest)))
          (record { more = prefix_len is_ascii_digit rest; count = prefix_more is_ascii_digit b rest h; longest = digits_longest b rest }, refl, λ q. absurd (cc)) (number_clean b rest e)
    ] refl

word_front_is : (b : ℕ) (rest : List ℕ) → is_ascii_alphabetic b ≡ true → begins_not_equal (b ∷ rest) ≡ false
    → IsFront Letter b rest (prefix_len is_name_byte (b ∷ rest)) (Lexeme (word_class (take (prefix_len is_name_byte (b ∷ rest)) (b ∷ rest))))
word_front_is b rest h e =
    let n : prefix_len is_name_byte (b ∷ rest) ≡ suc (prefix_len is_name_byte rest) = prefix_more is_name_byte b rest (letter_is_name b h) in
    rw n (record { more = prefix_len is_name_byte rest; count = refl; longest = word_longest b rest h e })

word_found : (line b : ℕ) (rest : List ℕ) → is_ascii_alphabetic b ≡ true → Found Letter line b rest (front_from line Letter b rest)
word_found line b rest h =
    let n = prefix_len is_name_byte (b ∷ rest) in
    elim (nat_lt 50 (prefix_len is_name_byte (b ∷ rest))) as (λ t. nat_lt 50 (prefix_len is_name_byte (b ∷ rest)) ≡ t
    → Found Letter line b rest (cond t (Err (long_name line)) (cond (begins_not_equal (b ∷ rest)) (Ok (piece_lexeme SignNotEqual 4)) (Ok (piece_lexeme (word_class (take (prefix_len is_name_byte (b ∷ rest)) (b ∷ rest))) (prefix_len is_name_byte (b ∷ rest))))))) [
      | true ↦ λ e. Fault_found (long_name line) (name_long b rest e line)
      | false ↦ λ e. elim (begins_not_equal (b ∷ rest)) as (λ t. begins_not_equal (b ∷ rest) ≡ t
          → Found Letter line b rest (cond t (Ok (piece_lexeme SignNotEqual 4)) (Ok (piece_lexeme (word_class (take (prefix_len is_name_byte (b ∷ rest)) (b ∷ rest))) (prefix_len is_name_byte (b ∷ rest)))))) [
            | true ↦ λ s. Piece_found (piece_lexeme SignNotEqual 4) (not_equal_front b rest s, refl, λ q. absurd (cc)) (word_clean b rest e)
            | false ↦ λ s. Piece_found (piece_lexeme (word_class (take (prefix_len is_name_byte (b ∷ rest)) (b ∷ rest))) (prefix_len is_name_byte (b ∷ rest))) (word_front_is b rest h s, refl, λ q. absurd (cc)) (word_clean b rest e)
          ] refl
    ] refl
  where
    not_equal_front : (b : ℕ) (rest : List ℕ) → begins_not_equal (b ∷ rest) ≡ true → IsFront Letter b rest 4 (Lexeme SignNotEqual)
    not_equal_front b rest s = let i = not_equal_is b rest s in let x = i.1 in let y = i.2 in rw (x, y) (record { more = 3; count = refl; longest = not_equal_longest i.0 })

single_found : (line b : ℕ) (rest : List ℕ) → ((class : Class) → single b ≡ Some class → IsFront Other b rest 1 (Lexeme class)) → Found Other line b rest (single_front line (single b))
single_found line b rest make =
    elim (single b) as (λ o. single b ≡ o → Found Other line b rest (single_front line o)) [
      | None ↦ λ e. Fault_found (bad_byte line) (sign_bad b rest (rw e refl) line)
      | Some class ↦ λ e. Piece_found (piece_lexeme class 1) (make class e, rw e refl, λ q. absurd (cc)) (sign_clean b rest (rw e refl))
    ] refl

sign_found : (line b : ℕ) (rest : List ℕ) → Found Other line b rest (front_from line Other b rest)
sign_found line b [] = single_found line b [] (λ class e. record { more = 0; count = refl; longest = alone_longest b class e })
sign_found line b (c ∷ rest) =
    elim (double b c) as (λ o. double b c ≡ o → Found Other line b (c ∷ rest) (double_front line o (single b))) [
      | None ↦ λ e. single_found line b (c ∷ rest) (λ class s. record { more = 0; count = refl; longest = single_longest b c rest class e s })
      | Some class ↦ λ e. Piece_found (piece_lexeme class 2) (record { more = 1; count = refl; longest = double_longest b c rest class e }, some_of (single b) (double_single b c class e), λ q. absurd (cc)) (sign_clean b (c ∷ rest) (double_single b c class e))
    ] refl

pub found : (f : First) (line b : ℕ) (rest : List ℕ) → FirstIs f b → Found f line b rest (front_from line f b rest)
found White line b rest h = white_found line b rest h
found Percent line b rest h = line_found line b rest h
found Slash line b rest h = comment_found line b rest
found Quote line b rest h = text_found line b rest
found Digit line b rest h = number_found line b rest h
found Letter line b rest h = word_found line b rest h
found Other line b rest h = sign_found line b rest

pub piece_found : (f : First) (line b : ℕ) (rest : List ℕ) (p : Piece) → FirstIs f b → front_from line f b rest ≡ Ok p → FrontIs f b rest p × IsClean f b rest
piece_found f line b rest p h e = take_piece (Ok p) refl (subst (λ r. Found f line b rest r) e (found f line b rest h)) where
  take_piece : (r : Result Piece LexError) → r ≡ Ok p → Found f line b rest r → FrontIs f b rest p × IsClean f b rest
  take_piece r i (Piece_found q g c) = let same : q ≡ p = cc in (subst (λ x. FrontIs f b rest x) same g, c)
  take_piece r i (Fault_found d g) = absurd (cc)

pub fault_found : (f : First) (line b : ℕ) (rest : List ℕ) (e : LexError) → FirstIs f b → front_from line f b rest ≡ Err e → FirstFault f line b rest e
fault_found f line b rest e h is = take_fault (Err e) refl (subst (λ r. Found f line b rest r) is (found f line b rest h)) where
  take_fault : (r : Result Piece LexError) → r ≡ Err e → Found f line b rest r → FirstFault f line b rest e
  take_fault r i (Piece_found q g c) = absurd (cc)
  take_fault r i (Fault_found d g) = let same : d ≡ e = cc in subst (λ x. FirstFault f line b rest x) same g
