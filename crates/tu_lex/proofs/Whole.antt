-- Reading a whole source: it is tokens within their limits, or has a first fault.
use Rattle.std.proofs.Common.{◌≡◌, ℕ, zero, suc, ◌+◌, ◌<◌, ◌≤◌, Bool, true, false, not, cond, eqb, nat_le, List, [], ◌∷◌, length, length-take, length-append, take, drop, refl, ap, ◌∙◌, subst, arith, inl, inr, ◌⊎◌}
use Rattle.std.specs.Prelude.{Option, Some, None, is_some, unwrap_or, nat_lt, ◌||◌, Result, Ok, Err}
use Rattle.std.specs.List.{All, list_all, prefix_len}
use Rattle.std.specs.Char.{is_ascii_digit}
use Rattle.std.specs.Str.{bytes_eq}
use Rattle.std.proofs.lemmas.List.Elements.{All-append, All-cons, All-nil}
use Rattle.std.proofs.lemmas.List.Sums.{count_by-le-length}
use Rattle.tu_token.specs.declared.class.Class.{Class}
use Rattle.tu_token.specs.declared.class.Class.TheVariants.{Name, Number, Text as text_class, SignAssign, SignImplies, SignLessOrEqual, SignGreaterOrEqual, SignRange, SignPower, SignNotEqual, SignPlus, SignMinus, SignStar, SignLess, SignGreater, SignEqual, SignLeftBracket, SignRightBracket, SignComma, SignColon, SignSemicolon, SignDot}
use Rattle.tu_token.specs.declared.fault.LexError.{LexError}
use Rattle.tu_token.specs.declared.fault.LexError.TheVariants.{Memory, BadByte, BadNumber, LongText, LongName, TooMany, TooDeep}
use Rattle.tu_token.specs.declared.token.Token.{Token}
use Rattle.tu_token.specs.Scans.{comment_scan, text_scan, close_of, bad_place}
use Rattle.tu_token.specs.TokenList.{TokenList}
use Rattle.tu_token.specs.Words.{entry, words, word_class, single, double}
use Rattle.tu_token.specs.ClassNumbers.{number}
use Rattle.tu_token.specs.Lexemes.{First, White, Percent, Slash, Quote, Digit, Letter, Other, first_of, is_line_end, is_name_byte, IsLexed}
use Rattle.tu_token.specs.LexFaults.{is_bad_number, is_long_text, goes_on, value_after, digits_of, HasNoFault, IsLexFault}
use Rattle.tu_token.specs.Nests.{no_nest, nest_after, depth}
use Rattle.tu_lex.specs.declared.lexer.Progress.{Progress}
use Rattle.tu_lex.specs.declared.piece.Piece.{Piece}
use Rattle.tu_lex.specs.declared.piece.Piece.TheVariants.{Gap, Text, Lexeme}
use Rattle.tu_lex.specs.Front.{begins_not_equal, comment_by, comment_front, text_by, word_front, single_front, double_front, sign_front, front_from, front}
use Rattle.tu_lex.specs.Laws.{IsSmallNumber, IsWithinLimits, AreWithinLimits}
use Rattle.tu_lex.specs.Reads.{passed, taken, refusal_of, Reads}
use Rattle.tu_lex.proofs.Pieces.{chosen}
use Rattle.tu_lex.proofs.Prefix.{both, prefix_passes}
use Rattle.tu_lex.proofs.Steps.{at_fault, at_gap, at_text, at_lexeme}
use Rattle.tu_lex.proofs.Turns.{reads_none, reads_all, no_fault_left}

-- no number is found
record NoNumber (o : Option Class) : Type 0 where
  is : (c : Class) → o ≡ Some c → c ≡ Number → ⊥

either : (t : Bool) (x y : Option Class) → NoNumber x → NoNumber y → NoNumber (cond t x y)
either true x y p q = p
either false x y p q = q

none_no : NoNumber None
none_no = record { is = λ c e n. absurd (cc) }

some_no : (c : Class) → not (eqb (number c) 1) ≡ true → NoNumber (Some c)
some_no c p = record { is = λ d e n. by d (some_is c d e) n } where
  some_is : (c d : Class) → ◌≡◌ {A = Option Class} (Some c) (Some d) → c ≡ d
  some_is c d e = cc

  by : (d : Class) → c ≡ d → d ≡ Number → ⊥
  by d e n = let f : not (eqb (number Number) 1) ≡ true = subst (λ k. not (eqb (number k) 1) ≡ true) (e ∙ n) p in absurd (cc)

entry_no : (es : List (List ℕ × Class)) (text : List ℕ) → list_all (λ (e : List ℕ × Class). not (eqb (number e.1) 1)) es ≡ true → NoNumber (entry es text)
entry_no [] text h = none_no
entry_no (e ∷ es) text h = let t = both (not (eqb (number e.1) 1)) (list_all (λ (e : List ℕ × Class). not (eqb (number e.1) 1)) es) h in either (bytes_eq text e.0) (Some e.1) (entry es text) (some_no e.1 t.0) (entry_no es text t.1)

words_no : list_all (λ (e : List ℕ × Class). not (eqb (number e.1) 1)) words ≡ true
unfolding words
words_no = refl

word_class_no : (text : List ℕ) → word_class text ≡ Number → ⊥
word_class_no text e = by (entry words text) (entry_no words text words_no) e where
  by : (o : Option Class) → NoNumber o → unwrap_or o Name ≡ Number → ⊥
  by None n e = absurd (cc)
  by (Some c) n e = n.is c refl e

single_no : (b : ℕ) → NoNumber (single b)
single_no b =
    either _ _ _ (some_no SignPlus refl) (either _ _ _ (some_no SignMinus refl) (either _ _ _ (some_no SignStar refl) (either _ _ _ (some_no SignLess refl) (either _ _ _ (some_no SignGreater refl) (either _ _ _ (some_no SignEqual refl)
    (either _ _ _ (some_no SignLeftBracket refl) (either _ _ _ (some_no SignRightBracket refl) (either _ _ _ (some_no SignComma refl) (either _ _ _ (some_no SignColon refl) (either _ _ _ (some_no SignSemicolon refl)
    (either _ _ _ (some_no SignDot refl) none_no)))))))))))

double_no : (b c : ℕ) → NoNumber (double b c)
double_no b c =
    either _ _ _ (some_no SignAssign refl) (either _ _ _ (some_no SignImplies refl) (either _ _ _ (some_no SignLessOrEqual refl) (either _ _ _ (some_no SignGreaterOrEqual refl) (either _ _ _ (some_no SignRange refl)
    (either _ _ _ (some_no SignPower refl) none_no)))))

class_is : (c d : Class) (m n : ℕ) → ◌≡◌ {A = Result Piece LexError} (Ok (Lexeme c m)) (Ok (Lexeme d n)) → (c ≡ d) × (m ≡ n)
class_is c d m n e = (cc, cc)

or_false : (a b : Bool) → (a || b) ≡ false → b ≡ false
or_false true b h = absurd (cc)
or_false false b h = h

at_most : (n : ℕ) → nat_lt 2147483647 n ≡ false → n ≤ 2147483647
at_most n h = grind arith

-- where a number is found in front, it is small
number_in_front : (f : First) (line b : ℕ) (rest : List ℕ) (n : ℕ) → front_from line f b rest ≡ Ok (Lexeme Number n) → IsSmallNumber (take n (b ∷ rest))
number_in_front White line b rest n e = absurd (cc)
number_in_front Percent line b rest n e = absurd (cc)
number_in_front Slash line b rest n e = absurd (slash rest e) where
  comment : (o : Option ℕ) → comment_by line o ≡ Ok (Lexeme Number n) → ⊥
  comment None e = absurd (cc)
  comment (Some m) e = absurd (cc)

  slash : (rest : List ℕ) → comment_front line rest ≡ Ok (Lexeme Number n) → ⊥
  slash [] e = absurd (cc)
  slash (c ∷ body) e = elim (chosen (eqb c 42) (comment_by line (close_of comment_scan false body)) (Err (BadByte line)) (Ok (Lexeme Number n)) e) [ inl h ↦ comment (close_of comment_scan false body) h.1 | inr h ↦ let k = h.1 in absurd (cc) ]
number_in_front Quote line b rest n e = absurd (quote (close_of text_scan false rest) e) where
  quote : (o : Option ℕ) → text_by line o rest ≡ Ok (Lexeme Number n) → ⊥
  quote None e = absurd (cc)
  quote (Some m) e = elim (chosen (is_long_text (Some m) rest) (Err (LongText line)) (Ok (Text (m + 1))) (Ok (Lexeme Number n)) e) [ inl h ↦ let k = h.1 in absurd (cc) | inr h ↦ let k = h.1 in absurd (cc) ]
number_in_front Digit line b rest n e =
    elim (chosen (is_bad_number (b ∷ rest)) (Err (BadNumber line)) (Ok (Lexeme Number (prefix_len is_ascii_digit (b ∷ rest)))) (Ok (Lexeme Number n)) e) [
      | inl h ↦ let k = h.1 in absurd (cc)
      | inr h ↦
          let size = (class_is Number Number (prefix_len is_ascii_digit (b ∷ rest)) n h.1).1 in
          let small = at_most (value_after 0 (digits_of (b ∷ rest))) (or_false (goes_on (drop (prefix_len is_ascii_digit (b ∷ rest)) (b ∷ rest))) (nat_lt 2147483647 (value_after 0 (digits_of (b ∷ rest)))) h.0) in
          subst (λ k. IsSmallNumber (take k (b ∷ rest))) size (record { digits = prefix_passes is_ascii_digit (b ∷ rest); small = small })
    ]
number_in_front Letter line b rest n e = absurd (letter e) where
  letter : word_front line (b ∷ rest) ≡ Ok (Lexeme Number n) → ⊥
  letter e =
      let word = take (prefix_len is_name_byte (b ∷ rest)) (b ∷ rest) in
      elim (chosen (nat_lt 50 (prefix_len is_name_byte (b ∷ rest))) (Err (LongName line)) (cond (begins_not_equal (b ∷ rest)) (Ok (Lexeme SignNotEqual 4)) (Ok (Lexeme (word_class word) (prefix_len is_name_byte (b ∷ rest))))) (Ok (Lexeme Number n)) e) [
        | inl h ↦ let k = h.1 in absurd (cc)
        | inr h ↦ elim (chosen (begins_not_equal (b ∷ rest)) (Ok (Lexeme SignNotEqual 4)) (Ok (Lexeme (word_class word) (prefix_len is_name_byte (b ∷ rest)))) (Ok (Lexeme Number n)) h.1) [
          | inl k ↦ let m = (class_is SignNotEqual Number 4 n k.1).0 in absurd (cc)
          | inr k ↦ word_class_no word (class_is (word_class word) Number (prefix_len is_name_byte (b ∷ rest)) n k.1).0
        ]
      ]
number_in_front Other line b rest n e = absurd (other rest e) where
  one : (o : Option Class) → NoNumber o → single_front line o ≡ Ok (Lexeme Number n) → ⊥
  one None none e = absurd (cc)
  one (Some c) none e = none.is c refl (class_is c Number 1 n e).0

  two : (o p : Option Class) → NoNumber o → NoNumber p → double_front line o p ≡ Ok (Lexeme Number n) → ⊥
  two None p none both e = one p both e
  two (Some c) p none both e = none.is c refl (class_is c Number 2 n e).0

  other : (rest : List ℕ) → sign_front line b rest ≡ Ok (Lexeme Number n) → ⊥
  other [] e = one (single b) (single_no b) e
  other (c ∷ more) e = two (double b c) (single b) (double_no b c) (single_no b) e

number_found : (line : ℕ) (bytes : List ℕ) (n : ℕ) → front line bytes ≡ Ok (Lexeme Number n) → IsSmallNumber (take n bytes)
number_found line [] n e = absurd (cc)
number_found line (b ∷ rest) n e = number_in_front (first_of b) line b rest n e

-- how far a source is read, with tokens within their limits
record IsRead (source : List ℕ) (p : Progress) : Type 0 where
  reads : Reads source p
  few : length p.tokens.items ≤ 65536
  each : All (IsWithinLimits (length source + 1)) p.tokens.items

line_within : (source : List ℕ) (p : Progress) → Reads source p → p.line ≤ length source + 1
line_within source p r =
    let e = r.line in
    let a = count_by-le-length is_line_end (take p.place source) in
    let b = length-take p.place source in
    omega arith

-- where it goes on, or that it has a fault
abbrev Further : List ℕ → Progress → Type 0
Further source p = ((q : Progress) × IsRead source q × (p.place < q.place)) ⊎ ((error : LexError) × IsLexFault source error)

no_memory : (p : Progress) (class : Class) (bad : Bool) → refusal_of p class bad ≡ Some Memory → ⊥
no_memory p class bad e =
    elim (chosen (eqb (length p.tokens.items) 65536) (Some (TooMany p.line)) (cond bad (Some (BadByte p.line)) (cond (nat_le (depth (nest_after p.nest class)) 32) None (Some (TooDeep p.line)))) (Some Memory) e) [
      | inl h ↦ let k = h.1 in absurd (cc)
      | inr h ↦ elim (chosen bad (Some (BadByte p.line)) (cond (nat_le (depth (nest_after p.nest class)) 32) None (Some (TooDeep p.line))) (Some Memory) h.1) [
        | inl k ↦ let m = k.1 in absurd (cc)
        | inr k ↦ elim (chosen (nat_le (depth (nest_after p.nest class)) 32) None (Some (TooDeep p.line)) (Some Memory) k.1) [ inl m ↦ let w = m.1 in absurd (cc) | inr m ↦ let w = m.1 in absurd (cc) ]
      ]
    ]

some_is_not : {A : Type 0} (x : A) → ◌≡◌ {A = Option A} (Some x) None → ⊥
some_is_not x e = absurd (cc)

not_full : (p : Progress) (class : Class) (bad : Bool) → refusal_of p class bad ≡ None → length p.tokens.items ≤ 65536 → length p.tokens.items + 1 ≤ 65536
not_full p class bad e few =
    elim (chosen (eqb (length p.tokens.items) 65536) (Some (TooMany p.line)) (cond bad (Some (BadByte p.line)) (cond (nat_le (depth (nest_after p.nest class)) 32) None (Some (TooDeep p.line)))) None e) [
      | inl h ↦ absurd (some_is_not (TooMany p.line) h.1)
      | inr h ↦ less (length p.tokens.items) h.0 few
    ]
  where
    less : (n : ℕ) → eqb n 65536 ≡ false → n ≤ 65536 → n + 1 ≤ 65536
    less n e h = grind arith

-- a token is taken, and stays within the limits
one_more : (source : List ℕ) (p : Progress) (class : Class) (bad : Bool) (text : List ℕ) → IsRead source p → refusal_of p class bad ≡ None → (class ≡ Number → IsSmallNumber text)
    → Reads source (taken p class text) → IsRead source (taken p class text)
one_more source p class bad text r free small reads =
    let token : Token = record { class = class; text = text; start = p.place; length = length text; line = p.line } in
    let room = not_full p class bad free r.few in
    record {
      reads = reads;
      few = omega (arith, length-append p.tokens.items (token ∷ []));
      each = All-append (IsWithinLimits (length source + 1)) p.tokens.items (token ∷ []) r.each
          (All-cons (IsWithinLimits (length source + 1)) token [] (record { number = small; line = line_within source p r.reads }) (All-nil (IsWithinLimits (length source + 1))));
    }

further : (source : List ℕ) (p : Progress) → IsRead source p → p.place < length source → Further source p
further source p r some = by (front p.line (drop p.place source)) refl where
  fault_of : (class : Class) (bad : Bool) (e : LexError) → refusal_of p class bad ≡ Some e → ((e ≡ Memory) ⊎ IsLexFault source e) → Further source p
  fault_of class bad e h (inl m) = absurd (no_memory p class bad (h ∙ ap (λ x. Some x) m))
  fault_of class bad e h (inr f) = inr (e, f)

  lexeme : (class : Class) (n : ℕ) → front p.line (drop p.place source) ≡ Ok (Lexeme class n) → (o : Option LexError) → refusal_of p class false ≡ o → Further source p
  lexeme class n h None e =
      let next = taken p class (take n (drop p.place source)) in
      let t = at_lexeme {A = Unit {0}} source p next (drop p.place source) n class (Ok tt) r.reads some refl h (e, refl) in
      inl (next, one_more source p class false (take n (drop p.place source)) r e (λ is. number_found p.line (drop p.place source) n (subst (λ c. front p.line (drop p.place source) ≡ Ok (Lexeme c n)) is h)) t.0, t.1)
  lexeme class n h (Some error) e = fault_of class false error e (at_lexeme {A = Unit {0}} source p p (drop p.place source) n class (Err error) r.reads some refl h (inr e))

  text : (n : ℕ) (bad : Bool) → bad ≡ is_some (bad_place false 1 (drop 1 (take n (drop p.place source)))) → front p.line (drop p.place source) ≡ Ok (Text n) → (o : Option LexError) → refusal_of p text_class bad ≡ o → Further source p
  text n bad is h None e =
      let next = taken p text_class (take n (drop p.place source)) in
      let t = at_text {A = Unit {0}} source p next (drop p.place source) n bad (Ok tt) r.reads some refl h is (e, refl) in
      inl (next, one_more source p text_class bad (take n (drop p.place source)) r e (λ is. absurd (cc)) t.0, t.1)
  text n bad is h (Some error) e = fault_of text_class bad error e (at_text {A = Unit {0}} source p p (drop p.place source) n bad (Err error) r.reads some refl h is (inr e))

  by : (found : Result Piece LexError) → front p.line (drop p.place source) ≡ found → Further source p
  by (Err e) h = inr (e, at_fault source p (drop p.place source) e r.reads some refl h)
  by (Ok (Gap n)) h = let t = at_gap source p (drop p.place source) n r.reads some refl h in inl (passed p (take n (drop p.place source)), record { reads = t.0; few = r.few; each = r.each }, t.1)
  by (Ok (Text n)) h = text n (is_some (bad_place false 1 (drop 1 (take n (drop p.place source))))) refl h (refusal_of p text_class (is_some (bad_place false 1 (drop 1 (take n (drop p.place source)))))) refl
  by (Ok (Lexeme class n)) h = lexeme class n h (refusal_of p class false) refl

abbrev Through : List ℕ → Type 0
Through source = ((q : Progress) × IsRead source q × (length source ≤ q.place)) ⊎ ((error : LexError) × IsLexFault source error)

through : (source : List ℕ) (left : ℕ) (p : Progress) → IsRead source p → length source ≤ p.place + left → Through source
through source zero p r h = inl (p, r, omega arith)
through source (suc left) p r h = by (λ q k. through source left q k) (nat_le (length source) p.place) refl where
  not_yet : (a b : ℕ) → nat_le a b ≡ false → b < a
  not_yet a b e = grind arith

  there : (a b : ℕ) → nat_le a b ≡ true → a ≤ b
  there a b e = grind arith

  on : ((q : Progress) → IsRead source q → length source ≤ q.place + left → Through source) → Further source p → Through source
  on rest (inl f) = let s = f.2 in rest f.0 f.1 (omega arith)
  on rest (inr f) = inr f

  by : ((q : Progress) → IsRead source q → length source ≤ q.place + left → Through source) → (b : Bool) → nat_le (length source) p.place ≡ b → Through source
  by rest true e = inl (p, r, there (length source) p.place e)
  by rest false e = on rest (further source p r (not_yet (length source) p.place e))

start : Progress
start = record { tokens = record { items = []; start = 0; line = 1 }; nest = no_nest; place = 0; line = 1 }

abbrev Either : List ℕ → Type 0
Either source = ((tokens : TokenList) × IsLexed source tokens × HasNoFault source × AreWithinLimits source tokens) ⊎ ((error : LexError) × IsLexFault source error)

whole : (source : List ℕ) → Either source
unfolding start
whole source = done (through source (length source) start (record { reads = reads_none source start refl refl refl refl; few = omega arith; each = All-nil (IsWithinLimits (length source + 1)) }) (omega arith)) where
  done : Through source → Either source
  done (inl t) =
      let q = t.0 in
      let tokens : TokenList = record { items = q.tokens.items; start = q.place; line = q.line } in
      inl (tokens, reads_all source q tokens t.1.reads t.2 refl refl refl, no_fault_left source q t.1.reads t.2, record { few = t.1.few; each = t.1.each; line = line_within source q t.1.reads })
  done (inr f) = inr f

pub tokens_or_fault : (source : List ℕ) → ((tokens : TokenList) × IsLexed source tokens × HasNoFault source) ⊎ ((error : LexError) × IsLexFault source error)
tokens_or_fault source = by (whole source) where
  by : Either source → ((tokens : TokenList) × IsLexed source tokens × HasNoFault source) ⊎ ((error : LexError) × IsLexFault source error)
  by (inl t) = inl (t.0, t.1, t.2)
  by (inr f) = inr f

pub tokens_are_within_limits : ((source : List ℕ) (a b : TokenList) → IsLexed source a → IsLexed source b → a ≡ b) → (source : List ℕ) (tokens : TokenList) → IsLexed source tokens → HasNoFault source → AreWithinLimits source tokens
tokens_are_within_limits one source tokens lexed clean = by (whole source) where
  by : Either source → AreWithinLimits source tokens
  by (inl t) = subst (λ a. AreWithinLimits source a) (one source t.0 tokens t.1 lexed) t.3
  by (inr f) = absurd (clean f.1.kind f.1.place f.1.fault)
