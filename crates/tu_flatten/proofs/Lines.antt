-- Tokens laid out on one line.
use Rattle.std.specs.Prelude.{◌≡◌, ℕ, ◌+◌, ◌-◌, cond, List, [], ◌∷◌, ◌++◌, length, map, refl}
use Rattle.std.proofs.Common.{min, ◌≤◌, sym, ap, ◌∙◌, subst, arith, length-append}
use Rattle.std.proofs.lemmas.List.Sums.{sum_by-cons}
use Rattle.tu_token.specs.ClassNumbers.{lexeme_of as token_lexeme, lexemes, number, keeps_text}
use Rattle.tu_token.specs.Words.{words}
use Rattle.tu_token.specs.declared.class.Class.{Class}
use Rattle.tu_token.specs.declared.class.Class.TheVariants.{Name, Number, Text}
use Rattle.tu_token.specs.TokenList.{TokenList}
use Rattle.tu_token.specs.declared.token.Token.{Token}
use Rattle.tu_flatten_parts.specs.declared.pieces.Piece.{Piece}
use Rattle.tu_flatten_parts.specs.Pieces.{lexeme_of}
use Rattle.tu_token.specs.Spellings.{bytes_of, spelling, text_of}
use Rattle.tu_flatten.specs.OneLine.{joined, StandsAt, StandFrom, IsOnOneLine}

-- how far tokens reach, with a blank behind each
abbrev pub width : List Token → ℕ
width [] = 0
width (token ∷ tokens) = length token.text + 1 + width tokens

width_push : (xs : List Token) (x : Token) → width (xs ++ x ∷ []) ≡ width xs + (length x.text + 1)
width_push [] x = omega arith
width_push (y ∷ ys) x = omega (arith, width_push ys x)

stand_push : (place : ℕ) (xs : List Token) (x : Token) → StandFrom place xs → StandsAt (place + width xs) x → StandFrom place (xs ++ x ∷ [])
stand_push place [] x s p =
    let P : ℕ → Type 0 = λ n. StandsAt n x in
    let e : place + 0 ≡ place = omega arith in
    (subst P e p, tt)
stand_push place (y ∷ ys) x s p =
    let P : ℕ → Type 0 = λ n. StandsAt n x in
    let e : place + (length y.text + 1 + width ys) ≡ place + length y.text + 1 + width ys = omega arith in
    (s.0, stand_push (place + length y.text + 1) ys x s.1 (subst P e p))

joined_length : (xs : List Token) → length (joined xs) ≡ width xs - 1
joined_length [] = refl
joined_length (x ∷ []) = omega arith
joined_length (x ∷ (y ∷ ys)) = omega (arith, length-append x.text (32 ∷ joined (y ∷ ys)), joined_length (y ∷ ys))

-- how many bytes the texts of pieces have
abbrev pub bytes : List Piece → ℕ
bytes pieces = bytes_of (map lexeme_of pieces)

bytes_cons : (x : Piece) (xs : List Piece) → bytes (x ∷ xs) ≡ length (text_of (lexeme_of x)) + bytes xs
bytes_cons x xs = sum_by-cons (λ z. length (text_of z)) (lexeme_of x) (map lexeme_of xs)

bytes_parts : (done : List Piece) (x : Piece) (rest : List Piece) → bytes (done ++ x ∷ rest) ≡ bytes done + length (text_of (lexeme_of x)) + bytes rest
bytes_parts [] x rest = omega (arith, bytes_cons x rest)
bytes_parts (y ∷ ys) x rest = omega (arith, bytes_cons y (ys ++ x ∷ rest), bytes_cons y ys, bytes_parts ys x rest)

length_parts : (done : List Piece) (x : Piece) (rest : List Piece) → length (done ++ x ∷ rest) ≡ length done + 1 + length rest
length_parts done x rest = omega (arith, length-append done (x ∷ rest))

-- these pieces are laid out as these tokens, and the next one goes to this place
pub record Laid (pieces : List Piece) (tokens : TokenList) (place : ℕ) : Type 0 where
  pub same : lexemes tokens.items ≡ map lexeme_of pieces
  pub stand : StandFrom 0 tokens.items
  pub reach : place ≡ width tokens.items
  pub bytes : width tokens.items ≡ bytes_of (map lexeme_of pieces) + length pieces

pub none_laid : (tokens : TokenList) → tokens ≡ record { items = []; start = 0; line = 1 } → Laid [] tokens 0
none_laid tokens e =
    let P : TokenList → Type 0 = λ z. Laid [] z 0 in
    subst P (sym e) (record { same = refl; stand = tt; reach = refl; bytes = refl })

map_push : {A B : Type 0} (f : A → B) (xs : List A) (x : A) → map f (xs ++ x ∷ []) ≡ map f xs ++ f x ∷ []
map_push f [] x = refl
map_push f (y ∷ ys) x = ap (λ z. f y ∷ z) (map_push f ys x)

pub laid_more : {done : List Piece} {tokens new : TokenList} {place : ℕ} {token : Token} (piece : Piece) → Laid done tokens place → new ≡ record tokens { items = tokens.items ++ token ∷ [] } → StandsAt place token → token_lexeme token ≡ lexeme_of piece → token.text ≡ text_of (lexeme_of piece) → Laid (done ++ piece ∷ []) new (place + (token.length + 1))
laid_more {done = done} {tokens = tokens} {place = place} {token = token} piece laid e stands same text =
    let n : length token.text ≡ length (text_of (lexeme_of piece)) = ap (λ (x : List ℕ). length x) text in
    let w = width_push tokens.items token in
    let P : TokenList → Type 0 = λ z. Laid (done ++ piece ∷ []) z (place + (token.length + 1)) in
    let Q : ℕ → Type 0 = λ z. StandsAt z token in
    let here : place ≡ 0 + width tokens.items = omega (arith, laid.reach) in
    subst P (sym e) (record {
      same = map_push token_lexeme tokens.items token ∙ ap (λ z. z ++ token_lexeme token ∷ []) laid.same ∙ ap (λ z. map lexeme_of done ++ z ∷ []) same ∙ sym (map_push lexeme_of done piece);
      stand = stand_push 0 tokens.items token laid.stand (subst Q here stands);
      reach = omega (arith, laid.reach, stands.length, w);
      bytes = omega (arith, laid.bytes, w, n, bytes_parts done piece [], length_parts done piece []);
    })

-- a sign or word keeps no text
pub unkept : (c : Class) → cond (keeps_text (number c)) [] (spelling (number c)) ≡ spelling (number c)
unfolding words
unkept Name = refl
unkept Number = refl
unkept Text = refl
unkept c = refl

-- where the last token ends
pub all_laid : {pieces : List Piece} {tokens new : TokenList} {place : ℕ} → Laid pieces tokens place → new ≡ record tokens { start = place - 1; line = 1 } → (lexemes new.items ≡ map lexeme_of pieces) × IsOnOneLine new
all_laid {pieces = pieces} {tokens = tokens} {new = new} {place = place} laid e =
    let P : TokenList → Type 0 = λ z. (lexemes z.items ≡ map lexeme_of pieces) × IsOnOneLine z in
    let end : place - 1 ≡ length (joined tokens.items) = omega (arith, laid.reach, joined_length tokens.items) in
    subst P (sym e) (laid.same, record { items = laid.stand; start = end; line = refl })

pub all_yielded : {tokens : TokenList} (yielded all : List Piece) → map (λ y. y) yielded ≡ all → (lexemes tokens.items ≡ map lexeme_of yielded) × IsOnOneLine tokens → (lexemes tokens.items ≡ map lexeme_of all) × IsOnOneLine tokens
all_yielded yielded all e p = (p.0 ∙ ap (λ z. map lexeme_of z) (sym (map_same yielded) ∙ e), p.1)
  where
    map_same : (xs : List Piece) → map (λ y. y) xs ≡ xs
    map_same [] = refl
    map_same (x ∷ xs) = ap (λ z. x ∷ z) (map_same xs)

-- behind the last token nothing is left to count
pub none_more : {total left all : ℕ} → left ≡ 0 → min (total + left) 18446744073709551615 ≡ all → total ≤ 18446744073709551615 → total ≡ all
none_more e f le = omega (arith, e, f, le)
