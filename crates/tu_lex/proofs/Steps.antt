-- One step of the lexer.
use Rattle.std.proofs.Common.{◌≡◌, ℕ, zero, suc, ◌+◌, ◌<◌, ◌≤◌, Bool, true, false, cond, eqb, nat_le, List, [], ◌∷◌, length, length-take, length-drop, length-append, append-nil, take, drop, refl, ap, ◌∙◌, sym, subst, arith, inl, inr, ◌⊎◌}
use Rattle.std.specs.Prelude.{Option, Some, None, is_none, is_some, Result, Ok, Err, MatchResult}
use Rattle.std.specs.List.{count_by}
use Rattle.std.proofs.lemmas.Bool.{eqb-true}
use Rattle.tu_token.specs.declared.class.Class.{Class}
use Rattle.tu_token.specs.declared.class.Class.TheVariants.{Text as text_class}
use Rattle.tu_token.specs.declared.fault.LexError.{LexError}
use Rattle.tu_token.specs.declared.fault.LexError.TheVariants.{Memory, BadByte as bad_byte, TooMany as too_many, TooDeep as too_deep}
use Rattle.tu_token.specs.Scans.{text_scan, close_of, bad_place}
use Rattle.tu_token.specs.Lexemes.{First, Quote, first_of, is_line_end, Shape, Separator, Lexeme, shape_of, IsPiece, line_after}
use Rattle.tu_token.specs.Nests.{nest_after, depth}
use Rattle.tu_token.specs.LexFaults.{FaultKind, BadByte, BadNumber, OpenText, LongText, OpenComment, LongName, TooMany, TooDeep, rank, error_of, Reading, begins_token, is_malformed, bad_in_text, Deepens, IsFault, read_piece, GoesBefore, IsLexFault}
use Rattle.tu_token.proofs.Unique.{one_piece}
use Rattle.tu_lex.specs.declared.lexer.Progress.{Progress}
use Rattle.tu_lex.specs.declared.piece.Piece.{Piece}
use Rattle.tu_lex.specs.declared.piece.Piece.TheVariants.{Gap, Text, Lexeme as piece_lexeme}
use Rattle.tu_lex.specs.Front.{front, front_from}
use Rattle.tu_lex.specs.Reads.{passed, taken, refusal_of, reading_of, Reads}
use Rattle.tu_lex.proofs.Closing.{closes_at}
use Rattle.tu_lex.proofs.Pieces.{chosen, first_is, FirstIs, IsFront, text_longest, piece_is, shape_is, within}
use Rattle.tu_lex.proofs.Fronts.{FrontIs, IsClean, piece_found, fault_found}
use Rattle.tu_lex.proofs.Faults.{Where, Malformed, InText, Many, Deep, where_is, bad_some, bad_below, no_line_end, count_skip, piece_some}
use Rattle.tu_lex.proofs.Lines.{lexeme_on_line, no_bad_piece}
use Rattle.tu_lex.proofs.Turns.{reads_more, refuses}

not_deep : (n : ℕ) → nat_le n 32 ≡ true → 32 < n → ⊥
not_deep n e h = grind arith

too_deep_is : (n : ℕ) → nat_le n 32 ≡ false → 32 < n
too_deep_is n e = grind arith

quote_is : (b : ℕ) → b ≡ 34 → is_line_end b ≡ false
quote_is b e = rw e refl

same_shape : (reading : Reading) (b : ℕ) (rest : List ℕ) (n : ℕ) (shape : Shape) → IsFront (first_of b) b rest n shape → (d : Deepens reading.nest (b ∷ rest)) → Lexeme d.class ≡ shape
same_shape reading b rest n shape f d =
    let e : d.text ≡ take n (b ∷ rest) = one_piece d.text (take n (b ∷ rest)) (b ∷ rest) d.piece (piece_is b rest n shape f) in
    let s : ◌≡◌ {A = Option Shape} (Some (Lexeme d.class)) (Some shape) = sym d.shape ∙ (ap shape_of e ∙ shape_is b rest n shape f) in
    cc

-- no fault where a separator is found
gap_is_clean : (reading : Reading) (b : ℕ) (rest : List ℕ) (n : ℕ) → FrontIs (first_of b) b rest (Gap n) → IsClean (first_of b) b rest → (k : FaultKind) (q : ℕ) → IsFault reading k q (b ∷ rest) → ⊥
gap_is_clean reading b rest n f clean k q h = go (where_is reading b rest k q h) where
  go : Where reading b rest k q → ⊥
  go (Malformed z m) = let c = clean k in cc
  go (InText is quote bad) = f.2 quote
  go (Many is z count token) = let c = f.1 in cc
  go (Deep is z d) = let s = same_shape reading b rest n Separator f.0 d in cc

-- nor where a token may be taken
token_is_clean : (reading : Reading) (b : ℕ) (rest : List ℕ) (n : ℕ) (class : Class) → IsFront (first_of b) b rest n (Lexeme class) → IsClean (first_of b) b rest
    → (first_of b ≡ Quote → bad_in_text (close_of text_scan false rest) rest ≡ None) → eqb reading.count 65536 ≡ false → nat_le (depth (nest_after reading.nest class)) 32 ≡ true
    → (k : FaultKind) (q : ℕ) → IsFault reading k q (b ∷ rest) → ⊥
token_is_clean reading b rest n class f clean good few shallow k q h = go (where_is reading b rest k q h) where
  go : Where reading b rest k q → ⊥
  go (Malformed z m) = let c = clean k in cc
  go (InText is quote bad) = let g = good quote in cc
  go (Many is z count token) = let e : eqb reading.count 65536 ≡ true = rw count refl in cc
  go (Deep is z d) =
      let s : Lexeme d.class ≡ Lexeme class = same_shape reading b rest n (Lexeme class) f d in
      let e : d.class ≡ class = cc in
      let deep : 32 < depth (nest_after reading.nest class) = subst (λ c. 32 < depth (nest_after reading.nest c)) e d.deep in
      not_deep (depth (nest_after reading.nest class)) shallow deep

-- a fault of what begins in front
malformed_is_fault : (reading : Reading) (b : ℕ) (rest : List ℕ) (k : FaultKind) → is_malformed k (first_of b) b rest ≡ true → rank k ≤ 5 → IsFault reading k 0 (b ∷ rest)
malformed_is_fault reading b rest BadByte m low = inl (refl, m)
malformed_is_fault reading b rest BadNumber m low = (refl, m)
malformed_is_fault reading b rest OpenText m low = (refl, m)
malformed_is_fault reading b rest LongText m low = (refl, m)
malformed_is_fault reading b rest OpenComment m low = (refl, m)
malformed_is_fault reading b rest LongName m low = (refl, m)
malformed_is_fault reading b rest TooMany m low = absurd (omega arith)
malformed_is_fault reading b rest TooDeep m low = absurd (omega arith)

malformed_first : (reading : Reading) (b : ℕ) (rest : List ℕ) (kind : FaultKind) → ((k : FaultKind) → is_malformed k (first_of b) b rest ≡ true → rank kind ≤ rank k) → rank kind ≤ 5
    → (k : FaultKind) (q : ℕ) → IsFault reading k q (b ∷ rest) → GoesBefore 0 kind q k
malformed_first reading b rest kind least low k q h = go (where_is reading b rest k q h) where
  go : Where reading b rest k q → GoesBefore 0 kind q k
  go (Malformed z m) = inr (sym z, least k m)
  go (InText is quote bad) = inl (bad_some (close_of text_scan false rest) rest q bad)
  go (Many is z count token) = inr (sym z, rw is (omega arith))
  go (Deep is z d) = inr (sym z, rw is (omega arith))

-- the first fault of what begins in front is the first of the source
pub step_fault : (source : List ℕ) (p : Progress) (b : ℕ) (rest : List ℕ) (e : LexError) → Reads source p → drop p.place source ≡ b ∷ rest → front_from p.line (first_of b) b rest ≡ Err e → IsLexFault source e
step_fault source p b rest e r here is =
    let f = fault_found (first_of b) p.line b rest e (first_is b) is in
    let found : IsLexFault source (error_of f.kind p.line) =
    refuses source p f.kind 0 r
    (rw here (malformed_is_fault (reading_of p) b rest f.kind f.malformed f.low))
    (rw here (malformed_first (reading_of p) b rest f.kind f.least f.low))
    (λ t piece. piece_some t (drop p.place source) piece)
    refl in
    subst (λ x. IsLexFault source x) (sym f.error) found

-- a separator is passed
pub step_gap : (source : List ℕ) (p : Progress) (b : ℕ) (rest : List ℕ) (n : ℕ) → Reads source p → drop p.place source ≡ b ∷ rest → front_from p.line (first_of b) b rest ≡ Ok (Gap n)
    → Reads source (passed p (take n (b ∷ rest))) × (p.place < (passed p (take n (b ∷ rest))).place)
step_gap source p b rest n r here is =
    let f = piece_found (first_of b) p.line b rest (Gap n) (first_is b) is in
    let front = (f.0).0 in
    let w = within b rest n Separator front in
    let l : length (take n (b ∷ rest)) ≡ n = omega (arith, length-take n (b ∷ rest), w.1) in (
      reads_more source p (passed p (take n (b ∷ rest))) (take n (b ∷ rest)) Separator r
          (rw here (piece_is b rest n Separator front)) (shape_is b rest n Separator front) (rw here (gap_is_clean (reading_of p) b rest n f.0 f.1))
          refl refl (sym (append-nil p.tokens.items)) refl,
      omega (arith, l, w.0),
    )

-- why a token may not be taken
pub data Refused (p : Progress) (class : Class) (bad : Bool) (e : LexError) : Type 0 where
  Many_refused : length p.tokens.items ≡ 65536 → e ≡ too_many p.line → Refused p class bad e
  Bad_refused : eqb (length p.tokens.items) 65536 ≡ false → bad ≡ true → e ≡ bad_byte p.line → Refused p class bad e
  Deep_refused : eqb (length p.tokens.items) 65536 ≡ false → bad ≡ false → nat_le (depth (nest_after p.nest class)) 32 ≡ false → e ≡ too_deep p.line → Refused p class bad e

refused_is : (p : Progress) (class : Class) (bad : Bool) (e : LexError) → refusal_of p class bad ≡ Some e → Refused p class bad e
refused_is p class bad e h =
    elim (chosen (eqb (length p.tokens.items) 65536) (Some (too_many p.line)) (cond bad (Some (bad_byte p.line)) (cond (nat_le (depth (nest_after p.nest class)) 32) None (Some (too_deep p.line)))) (Some e) h) [
      | inl q ↦ let s : ◌≡◌ {A = Option LexError} (Some (too_many p.line)) (Some e) = q.1 in Many_refused (eqb-true (length p.tokens.items) 65536 q.0) (let i : e ≡ too_many p.line = cc in i)
      | inr q ↦ elim (chosen bad (Some (bad_byte p.line)) (cond (nat_le (depth (nest_after p.nest class)) 32) None (Some (too_deep p.line))) (Some e) q.1) [
        | inl s ↦ let t : ◌≡◌ {A = Option LexError} (Some (bad_byte p.line)) (Some e) = s.1 in Bad_refused q.0 s.0 (let i : e ≡ bad_byte p.line = cc in i)
        | inr s ↦ elim (chosen (nat_le (depth (nest_after p.nest class)) 32) None (Some (too_deep p.line)) (Some e) s.1) [
          | inl t ↦ absurd (cc (t.1))
          | inr t ↦ let u : ◌≡◌ {A = Option LexError} (Some (too_deep p.line)) (Some e) = t.1 in Deep_refused q.0 s.0 t.0 (let i : e ≡ too_deep p.line = cc in i)
        ]
      ]
    ]

pub record Accepted (p : Progress) (class : Class) (bad : Bool) : Type 0 where
  pub few : eqb (length p.tokens.items) 65536 ≡ false
  pub good : bad ≡ false
  pub shallow : nat_le (depth (nest_after p.nest class)) 32 ≡ true

accepted_is : (p : Progress) (class : Class) (bad : Bool) → refusal_of p class bad ≡ None → Accepted p class bad
accepted_is p class bad h =
    elim (chosen (eqb (length p.tokens.items) 65536) (Some (too_many p.line)) (cond bad (Some (bad_byte p.line)) (cond (nat_le (depth (nest_after p.nest class)) 32) None (Some (too_deep p.line)))) None h) [
      | inl q ↦ absurd (cc (q.1))
      | inr q ↦ elim (chosen bad (Some (bad_byte p.line)) (cond (nat_le (depth (nest_after p.nest class)) 32) None (Some (too_deep p.line))) None q.1) [
        | inl s ↦ absurd (cc (s.1))
        | inr s ↦ elim (chosen (nat_le (depth (nest_after p.nest class)) 32) None (Some (too_deep p.line)) None s.1) [
          | inl t ↦ record { few = q.0; good = s.0; shallow = t.0 }
          | inr t ↦ absurd (cc (t.1))
        ]
      ]
    ]

-- a text with a byte or an escape that may not stand there
pub record BadText (b : ℕ) (rest : List ℕ) : Type 0 where
  pub quote : first_of b ≡ Quote
  pub size : ℕ
  pub closed : close_of text_scan false rest ≡ Some size
  pub offset : ℕ
  pub bad : bad_place false 1 (take size rest) ≡ Some offset

-- what is known of a token in front, whose text may be bad
pub record InFront (b : ℕ) (rest : List ℕ) (n : ℕ) (class : Class) (bad : Bool) : Type 0 where
  pub good : bad ≡ false → IsFront (first_of b) b rest n (Lexeme class)
  pub clean : IsClean (first_of b) b rest
  pub fits : first_of b ≡ Quote → bad ≡ false → bad_in_text (close_of text_scan false rest) rest ≡ None
  pub spoilt : bad ≡ true → BadText b rest
  pub token : begins_token (first_of b) b ≡ true
  pub some : 0 < n
  pub within : n ≤ length (b ∷ rest)

-- faults of what is well formed have the last two kinds, or stand within a text
many_first : (reading : Reading) (b : ℕ) (rest : List ℕ) → IsClean (first_of b) b rest → (k : FaultKind) (q : ℕ) → IsFault reading k q (b ∷ rest) → GoesBefore 0 TooMany q k
many_first reading b rest clean k q h = go (where_is reading b rest k q h) where
  go : Where reading b rest k q → GoesBefore 0 TooMany q k
  go (Malformed z m) = let c = clean k in absurd (cc)
  go (InText is quote bad) = inl (bad_some (close_of text_scan false rest) rest q bad)
  go (Many is z count token) = inr (sym z, rw is (omega arith))
  go (Deep is z d) = inr (sym z, rw is (omega arith))

deep_first : (reading : Reading) (b : ℕ) (rest : List ℕ) → IsClean (first_of b) b rest → (first_of b ≡ Quote → bad_in_text (close_of text_scan false rest) rest ≡ None)
    → eqb reading.count 65536 ≡ false → (k : FaultKind) (q : ℕ) → IsFault reading k q (b ∷ rest) → GoesBefore 0 TooDeep q k
deep_first reading b rest clean good few k q h = go (where_is reading b rest k q h) where
  go : Where reading b rest k q → GoesBefore 0 TooDeep q k
  go (Malformed z m) = let c = clean k in absurd (cc)
  go (InText is quote bad) = let g = good quote in absurd (cc)
  go (Many is z count token) = let e : eqb reading.count 65536 ≡ true = rw count refl in absurd (cc)
  go (Deep is z d) = inr (sym z, rw is (omega arith))

-- a text with a bad byte is no piece
bad_no_piece : (b : ℕ) (rest : List ℕ) → BadText b rest → (t : List ℕ) → IsPiece t (b ∷ rest) → ⊥
bad_no_piece b rest bad t piece = no_bad_piece b rest bad.size bad.offset bad.quote bad.closed bad.bad t piece

bad_first : (reading : Reading) (b : ℕ) (rest : List ℕ) (bad : BadText b rest) → IsClean (first_of b) b rest → eqb reading.count 65536 ≡ false
    → (k : FaultKind) (q : ℕ) → IsFault reading k q (b ∷ rest) → GoesBefore bad.offset BadByte q k
bad_first reading b rest bad clean few k q h = go (where_is reading b rest k q h) where
  go : Where reading b rest k q → GoesBefore bad.offset BadByte q k
  go (Malformed z m) = let c = clean k in absurd (cc)
  go (InText is quote here) =
      let e : bad_place false 1 (take bad.size rest) ≡ Some q = subst (λ o. bad_in_text o rest ≡ Some q) bad.closed here in
      let f : ◌≡◌ {A = Option ℕ} (Some bad.offset) (Some q) = sym bad.bad ∙ e in
      inr (cc, rw is (omega arith))
  go (Many is z count token) = let e : eqb reading.count 65536 ≡ true = rw count refl in absurd (cc)
  go (Deep is z d) = absurd (bad_no_piece b rest bad d.text d.piece)

bad_is_fault : (reading : Reading) (b : ℕ) (rest : List ℕ) (bad : BadText b rest) → IsFault reading BadByte bad.offset (b ∷ rest)
bad_is_fault reading b rest bad = inr (bad.quote, rw bad.closed bad.bad)

-- no line ends before a bad byte
bad_on_line : (b : ℕ) (rest : List ℕ) (bad : BadText b rest) → count_by is_line_end (take bad.offset (b ∷ rest)) ≡ 0
bad_on_line b rest bad = by bad.offset below where
  below : bad.offset ≤ bad.size
  below = let o = bad_below false 1 bad.offset (take bad.size rest) bad.bad in let l = length-take bad.size rest in omega arith

  no_end : is_line_end b ≡ false
  no_end = quote_is b (subst (λ f. FirstIs f b) bad.quote (first_is b))

  by : (o : ℕ) → o ≤ bad.size → count_by is_line_end (take o (b ∷ rest)) ≡ 0
  by zero h = refl
  by (suc o) h = count_skip b (take o rest) no_end ∙ no_line_end false rest bad.size o bad.closed (omega arith)

-- a token is taken, or its fault is the first of the source
pub step_token : {A : Type 0} (source : List ℕ) (p p' : Progress) (b : ℕ) (rest : List ℕ) (n : ℕ) (class : Class) (bad : Bool) (result : Result A LexError)
    → Reads source p → drop p.place source ≡ b ∷ rest → InFront b rest n class bad
    → MatchResult result (λ _. (refusal_of p class bad ≡ None) × (p' ≡ taken p class (take n (b ∷ rest)))) (λ e. (e ≡ Memory) ⊎ (refusal_of p class bad ≡ Some e))
    → MatchResult result (λ _. Reads source p' × (p.place < p'.place)) (λ e. (e ≡ Memory) ⊎ IsLexFault source e)
step_token source p p' b rest n class bad (Ok v) r here f h =
    let a = accepted_is p class bad h.0 in
    let front = f.good a.good in
    let l : length (take n (b ∷ rest)) ≡ n = let w = f.within in omega (arith, length-take n (b ∷ rest)) in
    let s = f.some in
    let e = h.1 in
    let next : Progress = taken p class (take n (b ∷ rest)) in
    let none : count_by is_line_end (take n (b ∷ rest)) ≡ 0 = lexeme_on_line (take n (b ∷ rest)) class (shape_is b rest n (Lexeme class) front) in
    let same_line : p.line ≡ line_after p.line (take n (b ∷ rest)) = omega arith in
    let count : length p.tokens.items + 1 ≡ length next.tokens.items = omega (arith, length-append p.tokens.items (record { class = class; text = take n (b ∷ rest); start = p.place; length = length (take n (b ∷ rest)); line = p.line } ∷ [])) in
    let one_more : read_piece (reading_of p) (Some (Lexeme class)) ≡ reading_of next = λ i. record { count = count i; nest = nest_after p.nest class } in
    let reads : Reads source next =
    reads_more source p next (take n (b ∷ rest)) (Lexeme class) r (rw here (piece_is b rest n (Lexeme class) front)) (shape_is b rest n (Lexeme class) front)
    (rw here (token_is_clean (reading_of p) b rest n class front f.clean (λ q. f.fits q a.good) a.few a.shallow)) refl same_line refl one_more in
    (subst (λ x. Reads source x) (sym e) reads, subst (λ (x : Progress). p.place < x.place) (sym e) (omega arith))
step_token source p p' b rest n class bad (Err e) r here f (inl m) = inl m
step_token source p p' b rest n class bad (Err e) r here f (inr h) = inr (go (refused_is p class bad e h)) where
  go : Refused p class bad e → IsLexFault source e
  go (Many_refused many is) =
      subst (λ x. IsLexFault source x) (sym is)
      (refuses source p TooMany 0 r (rw here (refl, many, f.token)) (rw here (many_first (reading_of p) b rest f.clean)) (λ t piece. piece_some t (drop p.place source) piece) refl)
  go (Bad_refused few is_bad is) =
      let text = f.spoilt is_bad in
      subst (λ x. IsLexFault source x) (sym is)
      (refuses source p BadByte text.offset r (rw here (bad_is_fault (reading_of p) b rest text)) (rw here (bad_first (reading_of p) b rest text f.clean few))
      (λ t piece. absurd (bad_no_piece b rest text t (subst (λ x. IsPiece t x) here piece))) (rw here (bad_on_line b rest text)))
  go (Deep_refused few is_good deep is) =
      let front = f.good is_good in
      subst (λ x. IsLexFault source x) (sym is)
      (refuses source p TooDeep 0 r
      (rw here (refl, record { text = take n (b ∷ rest); class = class; piece = piece_is b rest n (Lexeme class) front; shape = shape_is b rest n (Lexeme class) front; deep = too_deep_is (depth (nest_after p.nest class)) deep }))
      (rw here (deep_first (reading_of p) b rest f.clean (λ q. f.fits q is_good) few)) (λ t piece. piece_some t (drop p.place source) piece) refl)

-- a text in front, which may be bad
text_in_front : (b : ℕ) (rest : List ℕ) (n : ℕ) (bad : Bool) → FrontIs (first_of b) b rest (Text n) → IsClean (first_of b) b rest → bad ≡ is_some (bad_place false 1 (drop 1 (take n (b ∷ rest)))) → InFront b rest n text_class bad
text_in_front b rest n bad f clean bad_is = with_size f.0 f.1 (f.2) (f.3) where
  no_some : (o : Option ℕ) → is_some o ≡ false → is_none o ≡ true
  no_some None e = refl
  no_some (Some x) e = absurd (cc)

  none_of : (o : Option ℕ) → is_some o ≡ false → o ≡ None
  none_of None e = refl
  none_of (Some x) e = absurd (cc)

  some_of : (o : Option ℕ) → is_some o ≡ true → (x : ℕ) × (o ≡ Some x)
  some_of None e = absurd (cc)
  some_of (Some x) e = (x, refl)

  with_size : first_of b ≡ Quote → (m : ℕ) → n ≡ m + 1 → close_of text_scan false rest ≡ Some m → InFront b rest n text_class bad
  with_size quote m long closed =
      let s : n ≡ suc m = omega arith in
      let i : bad ≡ is_some (bad_place false 1 (take m rest)) = bad_is ∙ ap (λ k. is_some (bad_place false 1 (drop 1 (take k (b ∷ rest))))) s in
      let c = closes_at text_scan false rest m closed in
      let w = c.within in
      record {
        good = λ e. subst (λ x. IsFront x b rest n (Lexeme text_class)) (sym quote) (record { more = m; count = s; longest = text_longest b rest m closed (no_some (bad_place false 1 (take m rest)) (sym i ∙ e)) });
        clean = clean;
        fits = λ q e. rw closed (none_of (bad_place false 1 (take m rest)) (sym i ∙ e));
        spoilt = λ e. let o = some_of (bad_place false 1 (take m rest)) (sym i ∙ e) in record { quote = quote; size = m; closed = closed; offset = o.0; bad = o.1 };
        token = rw quote refl;
        some = omega arith;
        within = omega arith;
      }

lexeme_in_front : (b : ℕ) (rest : List ℕ) (n : ℕ) (class : Class) → FrontIs (first_of b) b rest (piece_lexeme class n) → IsClean (first_of b) b rest → InFront b rest n class false
lexeme_in_front b rest n class f clean =
    let w = within b rest n (Lexeme class) f.0 in
    record { good = λ e. f.0; clean = clean; fits = λ q e. absurd (f.2 q); spoilt = λ e. absurd (cc); token = f.1; some = w.0; within = w.1 }

-- how many bytes the piece in front has
abbrev pub size_in : Piece → ℕ
size_in (Gap n) = n
size_in (Text n) = n
size_in (piece_lexeme c n) = n

pub size_within : (f : First) (line b : ℕ) (rest : List ℕ) (p : Piece) → FrontIs f b rest p → f ≡ first_of b → (0 < size_in p) × (size_in p ≤ length (b ∷ rest))
size_within f line b rest (Gap n) h e = within b rest n Separator (subst (λ x. IsFront x b rest n Separator) e h.0)
size_within f line b rest (piece_lexeme c n) h e = within b rest n (Lexeme c) (subst (λ x. IsFront x b rest n (Lexeme c)) e h.0)
size_within f line b rest (Text n) h e = let c = closes_at text_scan false rest h.1 h.3 in let w = c.within in let s = h.2 in (omega arith, omega arith)

pub front_within : (line : ℕ) (bytes : List ℕ) (p : Piece) → 0 < length bytes → front line bytes ≡ Ok p → (0 < size_in p) × (size_in p ≤ length bytes)
front_within line [] p h e = absurd (omega arith)
front_within line (b ∷ rest) p h e = size_within (first_of b) line b rest p (piece_found (first_of b) line b rest p (first_is b) e).0 refl

-- The same from the bytes in front.
pub at_fault : (source : List ℕ) (p : Progress) (bytes : List ℕ) (e : LexError) → Reads source p → p.place < length source → bytes ≡ drop p.place source → front p.line bytes ≡ Err e → IsLexFault source e
at_fault source p [] e r some is h = absurd (let l = length-drop p.place source in let m : 0 ≡ length (drop p.place source) = ap (λ (x : List ℕ). length x) is in omega arith)
at_fault source p (b ∷ rest) e r some is h = step_fault source p b rest e r (sym is) h

pub at_gap : (source : List ℕ) (p : Progress) (bytes : List ℕ) (n : ℕ) → Reads source p → p.place < length source → bytes ≡ drop p.place source → front p.line bytes ≡ Ok (Gap n)
    → Reads source (passed p (take n bytes)) × (p.place < (passed p (take n bytes)).place)
at_gap source p [] n r some is h = absurd (let l = length-drop p.place source in let m : 0 ≡ length (drop p.place source) = ap (λ (x : List ℕ). length x) is in omega arith)
at_gap source p (b ∷ rest) n r some is h = step_gap source p b rest n r (sym is) h

abbrev pub Taken : {A : Type 0} → List ℕ → Progress → Progress → Result A LexError → Type 0
Taken source p p' result = MatchResult result (λ _. Reads source p' × (p.place < p'.place)) (λ e. (e ≡ Memory) ⊎ IsLexFault source e)

pub at_text : {A : Type 0} (source : List ℕ) (p p' : Progress) (bytes : List ℕ) (n : ℕ) (bad : Bool) (result : Result A LexError) → Reads source p → p.place < length source → bytes ≡ drop p.place source → front p.line bytes ≡ Ok (Text n)
    → bad ≡ is_some (bad_place false 1 (drop 1 (take n bytes)))
    → MatchResult result (λ _. (refusal_of p text_class bad ≡ None) × (p' ≡ taken p text_class (take n bytes))) (λ e. (e ≡ Memory) ⊎ (refusal_of p text_class bad ≡ Some e)) → Taken source p p' result
at_text source p p' [] n bad result r some is h bad_is taken = absurd (let l = length-drop p.place source in let m : 0 ≡ length (drop p.place source) = ap (λ (x : List ℕ). length x) is in omega arith)
at_text source p p' (b ∷ rest) n bad result r some is h bad_is taken =
    let f = piece_found (first_of b) p.line b rest (Text n) (first_is b) h in
    step_token source p p' b rest n text_class bad result r (sym is) (text_in_front b rest n bad f.0 f.1 bad_is) taken

pub at_lexeme : {A : Type 0} (source : List ℕ) (p p' : Progress) (bytes : List ℕ) (n : ℕ) (class : Class) (result : Result A LexError) → Reads source p → p.place < length source → bytes ≡ drop p.place source → front p.line bytes ≡ Ok (piece_lexeme class n)
    → MatchResult result (λ _. (refusal_of p class false ≡ None) × (p' ≡ taken p class (take n bytes))) (λ e. (e ≡ Memory) ⊎ (refusal_of p class false ≡ Some e)) → Taken source p p' result
at_lexeme source p p' [] n class result r some is h taken = absurd (let l = length-drop p.place source in let m : 0 ≡ length (drop p.place source) = ap (λ (x : List ℕ). length x) is in omega arith)
at_lexeme source p p' (b ∷ rest) n class result r some is h taken =
    let f = piece_found (first_of b) p.line b rest (piece_lexeme class n) (first_is b) h in
    step_token source p p' b rest n class false result r (sym is) (lexeme_in_front b rest n class f.0 f.1) taken
