-- What is computed to stand in front is the longest piece there.
use Rattle.std.proofs.Common.{◌≡◌, ℕ, zero, suc, ◌<◌, ◌≤◌, Bool, true, false, cond, eqb, ◌&&◌, List, [], ◌∷◌, ◌++◌, length, length-take, take, drop, refl, ap, ◌∙◌, sym, subst, arith, inl, inr, ◌⊎◌, codes}
use Rattle.std.specs.Prelude.{Option, Some, None, is_none, IsSome}
use Rattle.std.specs.List.{list_all, prefix_len}
use Rattle.std.specs.Char.{is_ascii_digit, is_ascii_alphabetic}
use Rattle.std.specs.Str.{bytes_eq}
use Rattle.std.proofs.lemmas.Bool.{eqb-true}
use Rattle.std.proofs.lemmas.List.{take-append-drop}
use Rattle.std.proofs.lemmas.List.Sums.{prefix_len-le-length}
use Rattle.std.proofs.lemmas.Slice.Eq.{bytes_eq-Decides}
use Rattle.tu_token.specs.declared.class.Class.{Class}
use Rattle.tu_token.specs.declared.class.Class.TheVariants.{Number, Text as text_class, SignNotEqual}
use Rattle.tu_token.specs.Words.{word_class, single, double}
use Rattle.tu_token.specs.Scans.{comment_scan, text_scan, close_of, bad_place}
use Rattle.tu_token.specs.Lexemes.{First, White, Percent, Slash, Quote, Digit, Letter, Other, first_of, is_white, is_inside_line, is_name_byte, Shape, Separator, Lexeme, sign_shape, word_shape, comment_shape, shape_from, shape_of, IsPiece}
use Rattle.tu_lex.specs.Front.{begins_not_equal}
use Rattle.tu_lex.proofs.Prefix.{both, prefix_passes, longer_fails}
use Rattle.tu_lex.proofs.Closing.{closes_at, part_closes, longer_closes_not}

pub chosen : {A : Type 0} (b : Bool) (x y z : A) → cond b x y ≡ z → ((b ≡ true) × (x ≡ z)) ⊎ ((b ≡ false) × (y ≡ z))
chosen true x y z e = inl (refl, e)
chosen false x y z e = inr (refl, e)

-- what is known of a byte by what it begins
abbrev pub FirstIs : First → ℕ → Type 0
FirstIs White b = is_white b ≡ true
FirstIs Percent b = b ≡ 37
FirstIs Slash b = b ≡ 47
FirstIs Quote b = b ≡ 34
FirstIs Digit b = is_ascii_digit b ≡ true
FirstIs Letter b = is_ascii_alphabetic b ≡ true
FirstIs Other b = Unit {0}

when : (b : ℕ) (t : Bool) (f g : First) → (t ≡ true → FirstIs f b) → (t ≡ false → FirstIs g b) → FirstIs (cond t f g) b
when b true f g p q = p refl
when b false f g p q = q refl

pub first_is : (b : ℕ) → FirstIs (first_of b) b
first_is b =
    when b (is_white b) White (cond (eqb b 37) Percent (cond (eqb b 47) Slash (cond (eqb b 34) Quote (cond (is_ascii_digit b) Digit (cond (is_ascii_alphabetic b) Letter Other))))) (λ e. e) (λ _.
    when b (eqb b 37) Percent (cond (eqb b 47) Slash (cond (eqb b 34) Quote (cond (is_ascii_digit b) Digit (cond (is_ascii_alphabetic b) Letter Other)))) (λ e. eqb-true b 37 e) (λ _.
    when b (eqb b 47) Slash (cond (eqb b 34) Quote (cond (is_ascii_digit b) Digit (cond (is_ascii_alphabetic b) Letter Other))) (λ e. eqb-true b 47 e) (λ _.
    when b (eqb b 34) Quote (cond (is_ascii_digit b) Digit (cond (is_ascii_alphabetic b) Letter Other)) (λ e. eqb-true b 34 e) (λ _.
    when b (is_ascii_digit b) Digit (cond (is_ascii_alphabetic b) Letter Other) (λ e. e) (λ _.
    when b (is_ascii_alphabetic b) Letter Other (λ e. e) (λ _. tt))))))

-- b and m bytes of the rest are the longest piece in front
pub record Longest (f : First) (b : ℕ) (rest : List ℕ) (m : ℕ) (shape : Shape) : Type 0 where
  pub within : m ≤ length rest
  pub shaped : shape_from f b (take m rest) ≡ Some shape
  pub longer : (k : ℕ) → m < k → k ≤ length rest → shape_from f b (take k rest) ≡ None

-- a run of bytes that pass a test
run_shaped : (p : ℕ → Bool) (rest : List ℕ) (shape : Shape) → cond (list_all p (take (prefix_len p rest) rest)) (Some shape) None ≡ Some shape
run_shaped p rest shape = let e = prefix_passes p rest in rw e refl

run_longer : (p : ℕ → Bool) (rest : List ℕ) (shape : Shape) (k : ℕ) → prefix_len p rest < k → k ≤ length rest → ◌≡◌ {A = Option Shape} (cond (list_all p (take k rest)) (Some shape) None) None
run_longer p rest shape k h w = let e = longer_fails p rest k h w in rw e refl

pub white_longest : (b : ℕ) (rest : List ℕ) → Longest White b rest (prefix_len is_white rest) Separator
white_longest b rest = record { within = prefix_len-le-length is_white rest; shaped = run_shaped is_white rest Separator; longer = run_longer is_white rest Separator }

pub line_longest : (b : ℕ) (rest : List ℕ) → Longest Percent b rest (prefix_len is_inside_line rest) Separator
line_longest b rest = record { within = prefix_len-le-length is_inside_line rest; shaped = run_shaped is_inside_line rest Separator; longer = run_longer is_inside_line rest Separator }

pub digits_longest : (b : ℕ) (rest : List ℕ) → Longest Digit b rest (prefix_len is_ascii_digit rest) (Lexeme Number)
digits_longest b rest = record { within = prefix_len-le-length is_ascii_digit rest; shaped = run_shaped is_ascii_digit rest (Lexeme Number); longer = run_longer is_ascii_digit rest (Lexeme Number) }

pub comment_longest : (b : ℕ) (body : List ℕ) (n : ℕ) → close_of comment_scan false body ≡ Some n → Longest Slash b (42 ∷ body) (suc n) Separator
comment_longest b body n e = record {
  within = let c = closes_at comment_scan false body n e in let w = c.within in omega arith;
  shaped = let p = part_closes comment_scan body n e in rw p refl;
  longer = longer;
} where
  longer : (k : ℕ) → suc n < k → k ≤ length (42 ∷ body) → comment_shape (take k (42 ∷ body)) ≡ None
  longer zero h w = absurd (omega arith)
  longer (suc k) h w = let p = longer_closes_not comment_scan body n k e (omega arith) (omega arith) in rw p refl

pub text_longest : (b : ℕ) (body : List ℕ) (n : ℕ) → close_of text_scan false body ≡ Some n → is_none (bad_place false 1 (take n body)) ≡ true → Longest Quote b body n (Lexeme text_class)
text_longest b body n e good = record {
  within = let c = closes_at text_scan false body n e in c.within;
  shaped = let p = part_closes text_scan body n e in rw (p, good) refl;
  longer = λ k h w. let p = longer_closes_not text_scan body n k e h w in rw p refl;
}

pub double_longest : (b c : ℕ) (more : List ℕ) (class : Class) → double b c ≡ Some class → Longest Other b (c ∷ more) 1 (Lexeme class)
double_longest b c more class e = record { within = omega arith; shaped = rw e refl; longer = longer more } where
  longer : (more : List ℕ) (k : ℕ) → 1 < k → k ≤ length (c ∷ more) → sign_shape b (take k (c ∷ more)) ≡ None
  longer more zero h w = absurd (omega arith)
  longer more (suc zero) h w = absurd (omega arith)
  longer [] (suc (suc k)) h w = absurd (omega arith)
  longer (d ∷ more) (suc (suc k)) h w = refl

pub alone_longest : (b : ℕ) (class : Class) → single b ≡ Some class → Longest Other b [] 0 (Lexeme class)
alone_longest b class e = record { within = omega arith; shaped = rw e refl; longer = λ k h w. absurd (omega arith) }

pub single_longest : (b c : ℕ) (more : List ℕ) (class : Class) → double b c ≡ None → single b ≡ Some class → Longest Other b (c ∷ more) 0 (Lexeme class)
single_longest b c more class none e = record { within = omega arith; shaped = rw e refl; longer = longer more } where
  longer : (more : List ℕ) (k : ℕ) → 0 < k → k ≤ length (c ∷ more) → sign_shape b (take k (c ∷ more)) ≡ None
  longer more zero h w = absurd (omega arith)
  longer more (suc zero) h w = rw none refl
  longer [] (suc (suc k)) h w = absurd (omega arith)
  longer (d ∷ more) (suc (suc k)) h w = refl

-- a part that is `not=` begins with it
begins_from : (k : ℕ) (bytes : List ℕ) → bytes_eq (take k bytes) (codes "not=") ≡ true → begins_not_equal bytes ≡ true
begins_from k bytes e =
    let d = bytes_eq-Decides (take k bytes) (codes "not=") in
    let t : take k bytes ≡ codes "not=" = d.0 e in
    let whole : bytes ≡ codes "not=" ++ drop k bytes = sym (take-append-drop k bytes) ∙ ap (λ x. x ++ drop k bytes) t in
    rw whole refl

pub not_equal_is : (b : ℕ) (rest : List ℕ) → begins_not_equal (b ∷ rest) ≡ true → (more : List ℕ) × (b ≡ 110) × (rest ≡ 111 ∷ (116 ∷ (61 ∷ more)))
not_equal_is b [] e = absurd (cc)
not_equal_is b (c ∷ []) e = absurd (cc)
not_equal_is b (c ∷ (d ∷ [])) e = absurd (cc)
not_equal_is b (c ∷ (d ∷ (f ∷ more))) e =
    let p = both (eqb b 110) (eqb c 111 && (eqb d 116 && eqb f 61)) e in
    let q = both (eqb c 111) (eqb d 116 && eqb f 61) p.1 in
    let r = both (eqb d 116) (eqb f 61) q.1 in
    let x : c ≡ 111 = eqb-true c 111 q.0 in
    let y : d ≡ 116 = eqb-true d 116 r.0 in
    let z : f ≡ 61 = eqb-true f 61 r.1 in
    (more, eqb-true b 110 p.0, rw (x, y, z) refl)

pub not_equal_longest : (more : List ℕ) → Longest Letter 110 (111 ∷ (116 ∷ (61 ∷ more))) 3 (Lexeme SignNotEqual)
not_equal_longest more = record { within = omega arith; shaped = refl; longer = longer more } where
  longer : (more : List ℕ) (k : ℕ) → 3 < k → k ≤ length (111 ∷ (116 ∷ (61 ∷ more))) → word_shape (110 ∷ take k (111 ∷ (116 ∷ (61 ∷ more)))) ≡ None
  longer more zero h w = absurd (omega arith)
  longer more (suc zero) h w = absurd (omega arith)
  longer more (suc (suc zero)) h w = absurd (omega arith)
  longer more (suc (suc (suc zero))) h w = absurd (omega arith)
  longer [] (suc (suc (suc (suc k)))) h w = absurd (omega arith)
  longer (x ∷ more) (suc (suc (suc (suc k)))) h w = refl

pub letter_is_name : (b : ℕ) → is_ascii_alphabetic b ≡ true → is_name_byte b ≡ true
letter_is_name b e = grind arith

pub word_longest : (b : ℕ) (rest : List ℕ) → is_ascii_alphabetic b ≡ true → begins_not_equal (b ∷ rest) ≡ false
    → Longest Letter b rest (prefix_len is_name_byte rest) (Lexeme (word_class (b ∷ take (prefix_len is_name_byte rest) rest)))
word_longest b rest first other = record {
  within = prefix_len-le-length is_name_byte rest;
  shaped = let n = letter_is_name b first in let p = prefix_passes is_name_byte rest in rw (n, p) refl;
  longer = λ k h w.
      let n = letter_is_name b first in
      let p = longer_fails is_name_byte rest k h w in
      let q : bytes_eq (b ∷ take k rest) (codes "not=") ≡ false = differs (bytes_eq (b ∷ take k rest) (codes "not=")) (λ e. begins_from (suc k) (b ∷ rest) e) in
      rw (n, p, q) refl;
} where
  differs : (t : Bool) → (t ≡ true → begins_not_equal (b ∷ rest) ≡ true) → t ≡ false
  differs true f = absurd (let e = f refl in cc (e, other))
  differs false f = refl

-- the piece in front is the first byte and m others
pub record IsFront (f : First) (b : ℕ) (rest : List ℕ) (n : ℕ) (shape : Shape) : Type 0 where
  pub more : ℕ
  pub count : n ≡ suc more
  pub longest : Longest f b rest more shape

pub within : (b : ℕ) (rest : List ℕ) (n : ℕ) (shape : Shape) → IsFront (first_of b) b rest n shape → (0 < n) × (n ≤ length (b ∷ rest))
within b rest n shape f = let w = f.longest.within in let e = f.count in (omega arith, omega arith)

pub shape_is : (b : ℕ) (rest : List ℕ) (n : ℕ) (shape : Shape) → IsFront (first_of b) b rest n shape → shape_of (take n (b ∷ rest)) ≡ Some shape
shape_is b rest n shape f = let e = f.count in rw e (f.longest.shaped)

pub piece_is : (b : ℕ) (rest : List ℕ) (n : ℕ) (shape : Shape) → IsFront (first_of b) b rest n shape → IsPiece (take n (b ∷ rest)) (b ∷ rest)
piece_is b rest n shape f =
    let w = within b rest n shape f in
    let l : length (take n (b ∷ rest)) ≡ n = omega (arith, length-take n (b ∷ rest), w.1) in
    record {
      front = ap (λ k. take k (b ∷ rest)) l;
      shaped = some (shape_of (take n (b ∷ rest))) shape (shape_is b rest n shape f);
      longest = λ k h i. longer k (subst (λ j. j < k) l h) i;
    }
  where
    some : (o : Option Shape) (s : Shape) → o ≡ Some s → IsSome o
    some None s e = absurd (cc)
    some (Some x) s e = refl

    longer : (k : ℕ) → n < k → k ≤ length (b ∷ rest) → shape_of (take k (b ∷ rest)) ≡ None
    longer zero h i = absurd (omega arith)
    longer (suc k) h i = let e = f.count in f.longest.longer k (omega arith) (omega arith)
