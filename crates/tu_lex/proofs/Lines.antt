-- A lexeme stands on one line.
use Rattle.std.proofs.Common.{◌≡◌, ℕ, Bool, true, false, cond, eqb, ◌&&◌, List, [], ◌∷◌, ◌++◌, length, take, drop, refl, ap, ◌∙◌, sym, subst, arith, inl, inr, append-nil, codes}
use Rattle.std.specs.Prelude.{Option, Some, None, is_none, IsSome}
use Rattle.std.specs.List.{count_by, list_all}
use Rattle.std.specs.Char.{is_ascii_digit}
use Rattle.std.specs.Str.{bytes_eq}
use Rattle.std.proofs.lemmas.List.{take-append-drop}
use Rattle.std.proofs.lemmas.Bool.{eqb-true}
use Rattle.std.proofs.lemmas.Slice.Eq.{bytes_eq-Decides}
use Rattle.std.proofs.Math.Seq.{drop-length}
use Rattle.tu_token.specs.declared.class.Class.{Class}
use Rattle.tu_token.specs.declared.class.Class.TheVariants.{Number, Text as text_class, SignNotEqual}
use Rattle.tu_token.specs.Words.{word_class, single, double}
use Rattle.tu_token.specs.Scans.{comment_scan, text_scan, close_of, closes_last, bad_place}
use Rattle.tu_token.specs.Lexemes.{First, White, Percent, Slash, Quote, Digit, Letter, Other, first_of, is_white, is_line_end, is_inside_line, is_name_byte, Shape, Separator, Lexeme, as_lexeme, sign_shape, word_shape, comment_shape, shape_from, shape_of, IsPiece}
use Rattle.tu_lex.proofs.Prefix.{both}
use Rattle.tu_lex.proofs.Closing.{close_longer, last_is}
use Rattle.tu_lex.proofs.Pieces.{chosen, FirstIs, first_is}
use Rattle.tu_lex.proofs.Faults.{count_skip, no_line_end}

pub take_whole : (bytes : List ℕ) → take (length bytes) bytes ≡ bytes
take_whole bytes = sym (append-nil (take (length bytes) bytes)) ∙ (ap (λ r. take (length bytes) bytes ++ r) (sym (drop-length bytes)) ∙ take-append-drop (length bytes) bytes)

all_inside : (p : ℕ → Bool) (bytes : List ℕ) → ((b : ℕ) → p b ≡ true → is_line_end b ≡ false) → list_all p bytes ≡ true → count_by is_line_end bytes ≡ 0
all_inside p [] inside e = refl
all_inside p (b ∷ bytes) inside e = let s = both (p b) (list_all p bytes) e in count_skip b bytes (inside b s.0) ∙ all_inside p bytes inside s.1

digit_inside : (b : ℕ) → is_ascii_digit b ≡ true → is_line_end b ≡ false
digit_inside b e = grind arith

name_inside : (b : ℕ) → is_name_byte b ≡ true → is_line_end b ≡ false
name_inside b e = grind arith

single_inside : (b : ℕ) (class : Class) → single b ≡ Some class → is_line_end b ≡ false
single_inside b class e = grind arith

first_inside : (b c : ℕ) (class : Class) → double b c ≡ Some class → is_line_end b ≡ false
first_inside b c class e = grind arith

second : (b c x y : ℕ) (s : Class) (other : Option Class) (class : Class) → is_line_end y ≡ false → (other ≡ Some class → is_line_end c ≡ false) → cond (eqb b x && eqb c y) (Some s) other ≡ Some class → is_line_end c ≡ false
second b c x y s other class inside later e =
    elim (chosen (eqb b x && eqb c y) (Some s) other (Some class) e) [
      | inl q ↦ let p = both (eqb b x) (eqb c y) q.0 in ap is_line_end (eqb-true c y p.1) ∙ inside
      | inr q ↦ later q.1
    ]

second_inside : (b c : ℕ) (class : Class) → double b c ≡ Some class → is_line_end c ≡ false
second_inside b c class e =
    second b c 58 61 _ _ class refl (λ e. second b c 61 62 _ _ class refl (λ e. second b c 60 61 _ _ class refl (λ e.
    second b c 62 61 _ _ class refl (λ e. second b c 46 46 _ _ class refl (λ e. second b c 42 42 _ _ class refl (λ e. absurd (cc)) e) e) e) e) e) e

double_inside : (b c : ℕ) (class : Class) → double b c ≡ Some class → (is_line_end b ≡ false) × (is_line_end c ≡ false)
double_inside b c class e = (first_inside b c class e, second_inside b c class e)

lexeme_some : (o : Option Class) (class : Class) → as_lexeme o ≡ Some (Lexeme class) → (c : Class) × (o ≡ Some c)
lexeme_some None class e = absurd (cc)
lexeme_some (Some c) class e = (c, refl)

text_inside : (rest : List ℕ) → closes_last text_scan rest ≡ true → count_by is_line_end rest ≡ 0
text_inside rest e = subst (λ x. count_by is_line_end x ≡ 0) (take_whole rest) (no_line_end false rest (length rest) (length rest) (last_is text_scan rest e) (omega arith))

word_inside : (text : List ℕ) (class : Class) → word_shape text ≡ Some (Lexeme class) → count_by is_line_end text ≡ 0
word_inside text class e =
    elim (chosen (list_all is_name_byte text) (Some (Lexeme (word_class text))) (cond (bytes_eq text (codes "not=")) (Some (Lexeme SignNotEqual)) None) (Some (Lexeme class)) e) [
      | inl q ↦ all_inside is_name_byte text name_inside q.0
      | inr q ↦ elim (chosen (bytes_eq text (codes "not=")) (Some (Lexeme SignNotEqual)) None (Some (Lexeme class)) q.1) [
        | inl r ↦ let d = bytes_eq-Decides text (codes "not=") in let t : text ≡ codes "not=" = d.0 r.0 in rw t refl
        | inr r ↦ absurd (cc (r.1))
      ]
    ]

comment_not : (body : List ℕ) (class : Class) → comment_shape body ≡ Some (Lexeme class) → ⊥
comment_not [] class e = cc
comment_not (b ∷ body) class e =
    elim (chosen (eqb b 42 && closes_last comment_scan body) (Some Separator) None (Some (Lexeme class)) e) [ inl q ↦ cc (q.1) | inr q ↦ cc (q.1) ]

sign_inside : (b : ℕ) (rest : List ℕ) (class : Class) → sign_shape b rest ≡ Some (Lexeme class) → count_by is_line_end (b ∷ rest) ≡ 0
sign_inside b [] class e = let s = lexeme_some (single b) class e in count_skip b [] (single_inside b s.0 s.1)
sign_inside b (c ∷ []) class e = let s = lexeme_some (double b c) class e in let d = double_inside b c s.0 s.1 in count_skip b (c ∷ []) d.0 ∙ count_skip c [] d.1
sign_inside b (c ∷ (d ∷ rest)) class e = absurd (cc)

quote_inside : (b : ℕ) → b ≡ 34 → is_line_end b ≡ false
quote_inside b e = rw e refl

pub inside_from : (f : First) (b : ℕ) (rest : List ℕ) (class : Class) → FirstIs f b → shape_from f b rest ≡ Some (Lexeme class) → count_by is_line_end (b ∷ rest) ≡ 0
inside_from White b rest class h e = absurd (elim (chosen (list_all is_white rest) (Some Separator) None (Some (Lexeme class)) e) [ inl q ↦ cc (q.1) | inr q ↦ cc (q.1) ])
inside_from Percent b rest class h e = absurd (elim (chosen (list_all is_inside_line rest) (Some Separator) None (Some (Lexeme class)) e) [ inl q ↦ cc (q.1) | inr q ↦ cc (q.1) ])
inside_from Slash b rest class h e = absurd (comment_not rest class e)
inside_from Quote b rest class h e =
    elim (chosen (closes_last text_scan rest && is_none (bad_place false 1 rest)) (Some (Lexeme text_class)) None (Some (Lexeme class)) e) [
      | inl q ↦ let s = both (closes_last text_scan rest) (is_none (bad_place false 1 rest)) q.0 in count_skip b rest (quote_inside b h) ∙ text_inside rest s.0
      | inr q ↦ absurd (cc (q.1))
    ]
inside_from Digit b rest class h e =
    elim (chosen (list_all is_ascii_digit rest) (Some (Lexeme Number)) None (Some (Lexeme class)) e) [
      | inl q ↦ count_skip b rest (digit_inside b h) ∙ all_inside is_ascii_digit rest digit_inside q.0
      | inr q ↦ absurd (cc (q.1))
    ]
inside_from Letter b rest class h e = word_inside (b ∷ rest) class e
inside_from Other b rest class h e = sign_inside b rest class e

pub lexeme_on_line : (text : List ℕ) (class : Class) → shape_of text ≡ Some (Lexeme class) → count_by is_line_end text ≡ 0
lexeme_on_line [] class e = absurd (cc)
lexeme_on_line (b ∷ rest) class e = inside_from (first_of b) b rest class (first_is b) e

-- a piece that begins with a quote is a text without a bad byte
quoted : (f : First) (b : ℕ) (rest : List ℕ) → f ≡ Quote → IsSome (shape_from f b rest) → (closes_last text_scan rest ≡ true) × (bad_place false 1 rest ≡ None)
quoted f b rest is some =
    go (closes_last text_scan rest && is_none (bad_place false 1 rest)) refl (subst (λ x. IsSome (shape_from x b rest)) is some)
  where
    none_is : (o : Option ℕ) → is_none o ≡ true → o ≡ None
    none_is None e = refl
    none_is (Some n) e = absurd (cc)

    go : (t : Bool) → t ≡ (closes_last text_scan rest && is_none (bad_place false 1 rest)) → IsSome {T = Shape} (cond t (Some (Lexeme text_class)) None) → (closes_last text_scan rest ≡ true) × (bad_place false 1 rest ≡ None)
    go true e some = let s = both (closes_last text_scan rest) (is_none (bad_place false 1 rest)) (sym e) in (s.0, none_is (bad_place false 1 rest) s.1)
    go false e some = absurd (cc)

-- so there is none in front of a text with one
pub no_bad_piece : (b : ℕ) (rest : List ℕ) (size offset : ℕ) → first_of b ≡ Quote → close_of text_scan false rest ≡ Some size → bad_place false 1 (take size rest) ≡ Some offset → (t : List ℕ) → IsPiece t (b ∷ rest) → ⊥
no_bad_piece b rest size offset quote closed bad [] piece = absurd (none piece.shaped) where
  none : IsSome (shape_of []) → ⊥
  none s = absurd (cc)
no_bad_piece b rest size offset quote closed bad (c ∷ more) piece =
    let front : b ∷ take (length more) rest ≡ c ∷ more = piece.front in
    let same : b ≡ c = cc in
    let part : take (length more) rest ≡ more = cc in
    let q = quoted (first_of c) c more (ap first_of (sym same) ∙ quote) piece.shaped in
    let short : close_of text_scan false (take (length more) rest) ≡ Some (length more) = subst (λ x. close_of text_scan false x ≡ Some (length more)) (sym part) (last_is text_scan more q.0) in
    let long : close_of text_scan false rest ≡ Some (length more) =
    subst (λ x. close_of text_scan false x ≡ Some (length more)) (take-append-drop (length more) rest) (close_longer text_scan false (take (length more) rest) (drop (length more) rest) (length more) short) in
    let sizes : ◌≡◌ {A = Option ℕ} (Some size) (Some (length more)) = sym closed ∙ long in
    let size_is : size ≡ length more = cc in
    let here : bad_place false 1 more ≡ Some offset = subst (λ x. bad_place false 1 x ≡ Some offset) (ap (λ n. take n rest) size_is ∙ part) bad in
    let good = q.1 in
    absurd (let e : ◌≡◌ {A = Option ℕ} None (Some offset) = sym good ∙ here in cc)
