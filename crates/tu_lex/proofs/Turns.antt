-- Reading on: behind a separator, behind a token, and at a fault.
use Rattle.std.proofs.Common.{◌≡◌, ℕ, ◌+◌, ◌<◌, ◌≤◌, cond, List, [], ◌∷◌, ◌++◌, length, length-drop, append_assoc, append-nil, take, drop, refl, ap, ◌∙◌, sym, subst, arith, inl, inr}
use Rattle.std.specs.Prelude.{Some}
use Rattle.std.specs.List.{count_by}
use Rattle.std.proofs.lemmas.List.{take-append-drop, drop-drop}
use Rattle.std.proofs.lemmas.List.Sums.{sum_by-append}
use Rattle.std.proofs.Math.Seq.{take-add, drop-length}
use Rattle.tu_token.specs.TokenList.{TokenList}
use Rattle.tu_token.specs.Lexemes.{is_line_end, Shape, shape_of, IsPiece, IsSplit, size_of, line_after, token_of, tokens_of, IsLexed}
use Rattle.tu_token.specs.Nests.{no_nest}
use Rattle.tu_token.specs.LexFaults.{FaultKind, error_of, Reading, reading_after, read_piece, at_start, IsFault, HasFault, GoesBefore, IsLexFault}
use Rattle.tu_token.proofs.Unique.{no_piece, within}
use Rattle.tu_lex.specs.declared.lexer.Progress.{Progress}
use Rattle.tu_lex.specs.Reads.{HasFaultFrom, reading_of, Reads}
use Rattle.tu_lex.proofs.Faults.{goes_before_all, behind_piece}

take_whole : (bytes : List ℕ) → take (length bytes) bytes ≡ bytes
take_whole bytes = sym (append-nil (take (length bytes) bytes)) ∙ (ap (λ r. take (length bytes) bytes ++ r) (sym (drop-length bytes)) ∙ take-append-drop (length bytes) bytes)

line_more : (line : ℕ) (a b : List ℕ) → line_after line (a ++ b) ≡ line_after (line_after line a) b
line_more line a b = let e : count_by is_line_end (a ++ b) ≡ count_by is_line_end a + count_by is_line_end b = sum_by-append (λ x. cond (is_line_end x) 1 0) a b in omega arith

-- the line behind n bytes and m more
pub line_on : (line n m : ℕ) (bytes : List ℕ) → line_after line (take (n + m) bytes) ≡ line_after (line_after line (take n bytes)) (take m (drop n bytes))
line_on line n m bytes = ap (line_after line) (take-add n m bytes) ∙ line_more line (take n bytes) (take m (drop n bytes))

split_more : (pieces : List (List ℕ)) (source rest t : List ℕ) → IsSplit pieces source rest → IsPiece t rest → IsSplit (pieces ++ t ∷ []) source (drop (length t) rest)
split_more [] source rest t s p = (subst (λ x. IsPiece t x) (sym s) p, ap (drop (length t)) s)
split_more (u ∷ pieces) source rest t s p = (s.0, split_more pieces (drop (length u) source) rest t s.1 p)

size_more : (pieces : List (List ℕ)) (t : List ℕ) → size_of (pieces ++ t ∷ []) ≡ size_of pieces + length t
size_more [] t = omega arith
size_more (u ∷ pieces) t = let e = size_more pieces t in omega arith

reading_more : (pieces : List (List ℕ)) (t : List ℕ) (r : Reading) → reading_after r (pieces ++ t ∷ []) ≡ read_piece (reading_after r pieces) (shape_of t)
reading_more [] t r = refl
reading_more (u ∷ pieces) t r = reading_more pieces t (read_piece r (shape_of u))

tokens_more : (pieces : List (List ℕ)) (source rest t : List ℕ) (start line : ℕ) → IsSplit pieces source rest
    → tokens_of start line (pieces ++ t ∷ []) ≡ tokens_of start line pieces ++ token_of (start + size_of pieces) (line_after line (take (size_of pieces) source)) t (shape_of t)
tokens_more [] source rest t start line s =
    let a : start + 0 ≡ start = omega arith in
    let b : line_after line (take 0 source) ≡ line = omega arith in
    rw (a, b) (append-nil (token_of start line t (shape_of t)))
tokens_more (u ∷ pieces) source rest t start line s =
    let front = (s.0).front in
    let r = tokens_more pieces (drop (length u) source) rest t (start + length u) (line_after line u) s.1 in
    let a : start + length u + size_of pieces ≡ start + (length u + size_of pieces) = omega arith in
    let l : line_after line (take (length u + size_of pieces) source) ≡ line_after (line_after line u) (take (size_of pieces) (drop (length u) source)) =
    line_on line (length u) (size_of pieces) source ∙ ap (λ x. line_after (line_after line x) (take (size_of pieces) (drop (length u) source))) front in
    let e : tokens_of (start + length u) (line_after line u) (pieces ++ t ∷ []) ≡ tokens_of (start + length u) (line_after line u) pieces ++ token_of (start + (length u + size_of pieces)) (line_after line (take (length u + size_of pieces) source)) t (shape_of t) =
    rw (l, ← a) r in
    ap (λ x. token_of start line u (shape_of u) ++ x) e
    ∙ sym (append_assoc (token_of start line u (shape_of u)) (tokens_of (start + length u) (line_after line u) pieces) (token_of (start + (length u + size_of pieces)) (line_after line (take (length u + size_of pieces) source)) t (shape_of t)))

-- what is read is so behind one piece more
pub reads_more : (source : List ℕ) (p p' : Progress) (t : List ℕ) (shape : Shape) → Reads source p → IsPiece t (drop p.place source) → shape_of t ≡ Some shape
    → ((k : FaultKind) (q : ℕ) → IsFault (reading_of p) k q (drop p.place source) → ⊥)
    → p'.place ≡ p.place + length t → p'.line ≡ line_after p.line t
    → p'.tokens.items ≡ p.tokens.items ++ token_of p.place p.line t (Some shape) → read_piece (reading_of p) (Some shape) ≡ reading_of p'
    → Reads source p'
reads_more source p p' t shape r piece is none place line items reading =
    let d : drop (length t) (drop p.place source) ≡ drop p'.place source = drop-drop (length t) p.place source ∙ ap (λ k. drop k source) (sym place) in
    let w : length t ≤ length (drop p.place source) = within t (drop p.place source) piece.front in
    let l = length-drop p.place source in
    let i = r.within in
    let s = size_more r.pieces t in
    let e = r.place in
    record {
      pieces = r.pieces ++ t ∷ [];
      split = subst (λ x. IsSplit (r.pieces ++ t ∷ []) source x) d (split_more r.pieces source (drop p.place source) t r.split piece);
      place = omega arith;
      within = omega arith;
      line = line ∙ (ap (λ n. line_after n t) r.line ∙ (ap (λ x. line_after (line_after 1 (take p.place source)) x) (sym piece.front) ∙ (sym (line_on 1 p.place (length t) source) ∙ ap (λ n. line_after 1 (take n source)) (sym place))));
      items = items ∙ (tokens_is ∙ sym (tokens_more r.pieces source (drop p.place source) t 0 1 r.split));
      reading = reading_more r.pieces t at_start ∙ (ap (λ x. read_piece x (shape_of t)) r.reading ∙ (ap (read_piece (reading_of p)) is ∙ reading));
      faults = λ k q h. later k q (r.faults k q h) d;
    }
  where
    tokens_is : p.tokens.items ++ token_of p.place p.line t (Some shape) ≡ tokens_of 0 1 r.pieces ++ token_of (0 + size_of r.pieces) (line_after 1 (take (size_of r.pieces) source)) t (shape_of t)
    tokens_is =
        let a : p.place ≡ 0 + size_of r.pieces = let e = r.place in omega arith in
        let l : p.line ≡ line_after 1 (take (size_of r.pieces) source) = r.line ∙ ap (λ n. line_after 1 (take n source)) r.place in
        let x : token_of p.place p.line t (Some shape) ≡ token_of (0 + size_of r.pieces) p.line t (Some shape) = ap (λ n. token_of n p.line t (Some shape)) a in
        let y : token_of (0 + size_of r.pieces) p.line t (Some shape) ≡ token_of (0 + size_of r.pieces) (line_after 1 (take (size_of r.pieces) source)) t (Some shape) = ap (λ n. token_of (0 + size_of r.pieces) n t (Some shape)) l in
        let z : token_of (0 + size_of r.pieces) (line_after 1 (take (size_of r.pieces) source)) t (Some shape) ≡ token_of (0 + size_of r.pieces) (line_after 1 (take (size_of r.pieces) source)) t (shape_of t) =
        ap (λ s. token_of (0 + size_of r.pieces) (line_after 1 (take (size_of r.pieces) source)) t s) (sym is) in
        ap (λ s. s ++ token_of p.place p.line t (Some shape)) r.items ∙ ap (λ s. tokens_of 0 1 r.pieces ++ s) (x ∙ (y ∙ z))

    later : (k : FaultKind) (q : ℕ) → (o : ℕ) × (q ≡ p.place + o) × HasFaultFrom (reading_of p) (drop p.place source) k o → drop (length t) (drop p.place source) ≡ drop p'.place source
        → (o : ℕ) × (q ≡ p'.place + o) × HasFaultFrom (reading_of p') (drop p'.place source) k o
    later k q h d =
        let b = behind_piece (reading_of p) (drop p.place source) t k h.0 none piece h.2 in
        let e = b.1 in
        let g = h.1 in (
          b.0,
          omega arith,
          subst (λ x. HasFaultFrom (reading_of p') x k b.0) d
              (subst (λ x. HasFaultFrom x (drop (length t) (drop p.place source)) k b.0) (ap (read_piece (reading_of p)) is ∙ reading) b.2),
        )

-- nothing is read yet
pub reads_none : (source : List ℕ) (p : Progress) → p.place ≡ 0 → p.line ≡ 1 → p.tokens.items ≡ [] → p.nest ≡ no_nest → Reads source p
reads_none source p place line items nest = record {
  pieces = [];
  split = ap (λ n. drop n source) (sym place);
  place = place;
  within = omega arith;
  line = line ∙ (sym (one source) ∙ ap (λ n. line_after 1 (take n source)) (sym place));
  items = items;
  reading = start;
  faults = λ k q h. (q, omega arith, rw (place, ← start) (record { pieces = h.pieces; rest = h.rest; offset = h.offset; split = h.split; fault = h.fault; place_is = h.place_is }));
} where
  one : (source : List ℕ) → line_after 1 (take 0 source) ≡ 1
  one source = omega arith

  start : at_start ≡ reading_of p
  start = let e = sym items in let n = sym nest in λ i. record { count = length (e i); nest = n i }

-- the source is read to its end
pub reads_all : (source : List ℕ) (p : Progress) (tokens : TokenList) → Reads source p → length source ≤ p.place → tokens.items ≡ p.tokens.items → tokens.start ≡ p.place → tokens.line ≡ p.line → IsLexed source tokens
reads_all source p tokens r end items start line =
    let w = r.within in
    let e : p.place ≡ length source = omega arith in
    let d : drop p.place source ≡ [] = ap (λ n. drop n source) e ∙ drop-length source in
    let t : take (length source) source ≡ source = take_whole source in
    record {
      pieces = r.pieces;
      split = subst (λ x. IsSplit r.pieces source x) d r.split;
      items = items ∙ r.items;
      start = start ∙ e;
      line = line ∙ (r.line ∙ (ap (λ n. line_after 1 (take n source)) e ∙ ap (line_after 1) t));
    }

pub no_fault_left : (source : List ℕ) (p : Progress) → Reads source p → length source ≤ p.place → (k : FaultKind) (q : ℕ) → HasFault source k q → ⊥
no_fault_left source p r end k q h =
    let w = r.within in
    let e : p.place ≡ length source = omega arith in
    let d : drop p.place source ≡ [] = ap (λ n. drop n source) e ∙ drop-length source in
    let f = r.faults k q h in
    none f.0 (subst (λ x. HasFaultFrom (reading_of p) x k f.0) d f.2)
  where
    by : (o : ℕ) (pieces : List (List ℕ)) (rest : List ℕ) (offset : ℕ) → IsSplit pieces [] rest → IsFault (reading_after (reading_of p) pieces) k offset rest → ⊥
    by o [] rest offset s f = subst (λ x. IsFault (reading_of p) k offset x) (sym s) f
    by o (t ∷ pieces) rest offset s f = no_piece t s.0

    none : (o : ℕ) → HasFaultFrom (reading_of p) [] k o → ⊥
    none o h = by o h.pieces h.rest h.offset h.split h.fault

-- a fault in front that goes before all others there is the first of the source
pub refuses : (source : List ℕ) (p : Progress) (kind : FaultKind) (offset : ℕ) → Reads source p → IsFault (reading_of p) kind offset (drop p.place source)
    → ((k : FaultKind) (q : ℕ) → IsFault (reading_of p) k q (drop p.place source) → GoesBefore offset kind q k) → ((t : List ℕ) → IsPiece t (drop p.place source) → offset < length t)
    → count_by is_line_end (take offset (drop p.place source)) ≡ 0 → IsLexFault source (error_of kind p.line)
refuses source p kind offset r fault first later lines = record {
  kind = kind;
  place = p.place + offset;
  fault = record {
    pieces = r.pieces;
    rest = drop p.place source;
    offset = offset;
    split = r.split;
    fault = subst (λ x. IsFault x kind offset (drop p.place source)) (sym r.reading) fault;
    place_is = ap (λ n. n + offset) r.place;
  };
  first = λ k q h. let f = r.faults k q h in shifted k q f.0 f.1 (goes_before_all (reading_of p) (drop p.place source) offset kind k f.0 first later f.2);
  error_is = ap (error_of kind) same;
} where
  shifted : (k : FaultKind) (q o : ℕ) → q ≡ p.place + o → GoesBefore offset kind o k → GoesBefore (p.place + offset) kind q k
  shifted k q o e (inl h) = inl (omega arith)
  shifted k q o e (inr h) = let g = h.0 in inr (omega arith, h.1)

  same : p.line ≡ line_after 1 (take (p.place + offset) source)
  same = r.line ∙ sym (line_on 1 p.place offset source ∙ still) where
    still : line_after (line_after 1 (take p.place source)) (take offset (drop p.place source)) ≡ line_after 1 (take p.place source)
    still = omega arith
