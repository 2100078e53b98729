-- Faults from a place on: which one is first, and that there is none in a good piece.
use Rattle.std.proofs.Common.{◌≡◌, ℕ, zero, suc, ◌+◌, ◌-◌, ◌<◌, ◌≤◌, Bool, true, false, cond, eqb, List, [], ◌∷◌, length, take, drop, refl, ap, ◌∙◌, sym, subst, arith, inl, inr}
use Rattle.std.specs.Prelude.{Option, Some, None, IsSome}
use Rattle.std.specs.List.{count_by, fold}
use Rattle.tu_token.specs.Scans.{Closes, Fails, Goes, closed_by, text_scan, close_of, bad_place, is_escape, is_text_byte}
use Rattle.tu_token.specs.Lexemes.{Quote, first_of, is_line_end, Shape, shape_of, IsPiece, IsSplit, size_of}
use Rattle.tu_token.specs.LexFaults.{FaultKind, BadByte, BadNumber, OpenText, LongText, OpenComment, LongName, TooMany, TooDeep, Reading, reading_after, read_piece, is_malformed, begins_token, bad_in_text, Deepens, IsFault, GoesBefore}
use Rattle.tu_token.proofs.Unique.{one_piece}
use Rattle.tu_lex.specs.Reads.{HasFaultFrom}
use Rattle.tu_lex.proofs.Closing.{more_is}
use Rattle.tu_lex.proofs.Pieces.{chosen}

-- the fault is that of a text, or else it stands at the first byte
pub data Where (reading : Reading) (b : ℕ) (rest : List ℕ) (k : FaultKind) (q : ℕ) : Type 0 where
  Malformed : q ≡ 0 → is_malformed k (first_of b) b rest ≡ true → Where reading b rest k q
  InText : k ≡ BadByte → first_of b ≡ Quote → bad_in_text (close_of text_scan false rest) rest ≡ Some q → Where reading b rest k q
  Many : k ≡ TooMany → q ≡ 0 → reading.count ≡ 65536 → begins_token (first_of b) b ≡ true → Where reading b rest k q
  Deep : k ≡ TooDeep → q ≡ 0 → Deepens reading.nest (b ∷ rest) → Where reading b rest k q

pub where_is : (reading : Reading) (b : ℕ) (rest : List ℕ) (k : FaultKind) (q : ℕ) → IsFault reading k q (b ∷ rest) → Where reading b rest k q
where_is reading b rest BadByte q (inl h) = Malformed h.0 h.1
where_is reading b rest BadByte q (inr h) = InText refl h.0 h.1
where_is reading b rest BadNumber q h = Malformed h.0 h.1
where_is reading b rest OpenText q h = Malformed h.0 h.1
where_is reading b rest LongText q h = Malformed h.0 h.1
where_is reading b rest OpenComment q h = Malformed h.0 h.1
where_is reading b rest LongName q h = Malformed h.0 h.1
where_is reading b rest TooMany q h = Many refl h.0 h.1 h.2
where_is reading b rest TooDeep q h = Deep refl h.0 h.1

-- a bad byte stands at a place of its own
at_mark : Bool → ℕ → ℕ → Type 0
at_mark true place q = place ≤ q + 1
at_mark false place q = place ≤ q

bad_from : (marked : Bool) (place q : ℕ) (bytes : List ℕ) → bad_place marked place bytes ≡ Some q → at_mark marked place q
unfolding at_mark
bad_from marked place q [] e = absurd (cc)
bad_from true place q (b ∷ rest) e =
    elim (chosen (is_escape b) (bad_place false (place + 1) rest) (Some (place - 1)) (Some q) e) [
      | inl h ↦ let r : place + 1 ≤ q = bad_from false (place + 1) q rest h.1 in omega arith
      | inr h ↦ let s : place - 1 ≡ q = cc (h.1) in omega arith
    ]
bad_from false place q (b ∷ rest) e =
    elim (chosen (is_text_byte b) (bad_place (eqb b 92) (place + 1) rest) (Some place) (Some q) e) [
      | inl h ↦ elim (eqb b 92) as (λ m. bad_place m (place + 1) rest ≡ Some q → place ≤ q) [
        | true ↦ λ f. let r : place + 1 ≤ q + 1 = bad_from true (place + 1) q rest f in omega arith
        | false ↦ λ f. let r : place + 1 ≤ q = bad_from false (place + 1) q rest f in omega arith
      ] h.1
      | inr h ↦ let s : place ≡ q = cc (h.1) in omega arith
    ]

pub bad_below : (marked : Bool) (place q : ℕ) (bytes : List ℕ) → bad_place marked place bytes ≡ Some q → q < place + length bytes
bad_below marked place q [] e = absurd (cc)
bad_below true place q (b ∷ rest) e =
    elim (chosen (is_escape b) (bad_place false (place + 1) rest) (Some (place - 1)) (Some q) e) [
      | inl h ↦ let r = bad_below false (place + 1) q rest h.1 in omega arith
      | inr h ↦ let s : place - 1 ≡ q = cc (h.1) in omega arith
    ]
bad_below false place q (b ∷ rest) e =
    elim (chosen (is_text_byte b) (bad_place (eqb b 92) (place + 1) rest) (Some place) (Some q) e) [
      | inl h ↦ let r = bad_below (eqb b 92) (place + 1) q rest h.1 in omega arith
      | inr h ↦ let s : place ≡ q = cc (h.1) in omega arith
    ]

pub bad_some : (o : Option ℕ) (body : List ℕ) (q : ℕ) → bad_in_text o body ≡ Some q → 0 < q
bad_some None body q e = absurd (cc)
bad_some (Some n) body q e = let r : 1 ≤ q = unfold at_mark in bad_from false 1 q (take n body) e in omega arith

not_end : (marked : Bool) (b n : ℕ) (f : Bool → Option ℕ) → closed_by (text_scan marked b) f ≡ Some n → is_line_end b ≡ false
not_end marked b n f e =
    elim (eqb b 10) as (λ t. closed_by (cond t Fails (cond marked (Goes false) (cond (eqb b 34) Closes (Goes (eqb b 92))))) f ≡ Some n → t ≡ false) [
      | true ↦ λ g. absurd (cc)
      | false ↦ λ g. refl
    ] e

pub count_skip : (b : ℕ) (bytes : List ℕ) → is_line_end b ≡ false → count_by is_line_end (b ∷ bytes) ≡ count_by is_line_end bytes
count_skip b bytes e = ap (λ t. fold (λ (a x : ℕ). a + cond (is_line_end x) 1 0) (0 + cond t 1 0) bytes) e

nothing : (j : ℕ) (bytes : List ℕ) → j ≤ 0 → count_by is_line_end (take j bytes) ≡ 0
nothing zero bytes h = refl
nothing (suc j) bytes h = absurd (omega arith)

-- no line ends within a text
pub no_line_end : (marked : Bool) (bytes : List ℕ) (n j : ℕ) → close_of text_scan marked bytes ≡ Some n → j ≤ n → count_by is_line_end (take j bytes) ≡ 0
no_line_end marked [] n j e h = absurd (cc)
no_line_end marked (b ∷ rest) n zero e h = refl
no_line_end marked (b ∷ rest) n (suc j) e h =
    let later : count_by is_line_end (take j rest) ≡ 0 =
    elim (text_scan marked b) as (λ s. closed_by s (λ m. close_of text_scan m rest) ≡ Some n → count_by is_line_end (take j rest) ≡ 0) [
      | Closes ↦ λ f. let one : n ≡ 1 = cc in nothing j rest (omega arith)
      | Fails ↦ λ f. absurd (cc)
      | Goes m ↦ λ f. let g = more_is (close_of text_scan m rest) n f in let i = g.2 in no_line_end m rest g.0 j g.1 (omega arith)
    ] e in
    let first : is_line_end b ≡ false = not_end marked b n (λ m. close_of text_scan m rest) e in
    count_skip b (take j rest) first ∙ later

-- a text of no byte is no piece
pub piece_some : (t source : List ℕ) → IsPiece t source → 0 < length t
piece_some [] source p = absurd (none (shape_of []) p.shaped refl) where
  none : (o : Option Shape) → IsSome o → o ≡ None → ⊥
  none None s e = absurd (cc)
  none (Some x) s e = absurd (cc)
piece_some (b ∷ t) source p = omega arith

-- a fault that goes before all others in front goes before all from there on
pub goes_before_all : (reading : Reading) (source : List ℕ) (offset : ℕ) (kind k : FaultKind) (q : ℕ)
    → ((k : FaultKind) (q : ℕ) → IsFault reading k q source → GoesBefore offset kind q k) → ((t : List ℕ) → IsPiece t source → offset < length t)
    → HasFaultFrom reading source k q → GoesBefore offset kind q k
goes_before_all reading source offset kind k q here later h = by h.pieces h.rest h.offset h.split h.fault h.place_is where
  by : (pieces : List (List ℕ)) (rest : List ℕ) (o : ℕ) → IsSplit pieces source rest → IsFault (reading_after reading pieces) k o rest → q ≡ size_of pieces + o → GoesBefore offset kind q k
  by [] rest o split fault is =
      let e : q ≡ o = omega arith in
      here k q (rw e (subst (λ x. IsFault reading k o x) (sym split) fault))
  by (t ∷ pieces) rest o split fault is = let l = later t split.0 in inl (omega arith)

-- where there is none in front, it stands behind the piece in front
pub behind_piece : (reading : Reading) (source t : List ℕ) (k : FaultKind) (q : ℕ) → ((k : FaultKind) (q : ℕ) → IsFault reading k q source → ⊥) → IsPiece t source
    → HasFaultFrom reading source k q → (o : ℕ) × (q ≡ length t + o) × HasFaultFrom (read_piece reading (shape_of t)) (drop (length t) source) k o
behind_piece reading source t k q none piece h = by h.pieces h.rest h.offset h.split h.fault h.place_is where
  by : (pieces : List (List ℕ)) (rest : List ℕ) (o : ℕ) → IsSplit pieces source rest → IsFault (reading_after reading pieces) k o rest → q ≡ size_of pieces + o
      → (o : ℕ) × (q ≡ length t + o) × HasFaultFrom (read_piece reading (shape_of t)) (drop (length t) source) k o
  by [] rest o split fault is = absurd (none k o (subst (λ x. IsFault reading k o x) (sym split) fault))
  by (u ∷ pieces) rest o split fault is =
      let e : u ≡ t = one_piece u t source split.0 piece in (
        size_of pieces + o,
        subst (λ (x : List ℕ). q ≡ length x + (size_of pieces + o)) e (omega arith),
        subst (λ (x : List ℕ). HasFaultFrom (read_piece reading (shape_of x)) (drop (length x) source) k (size_of pieces + o)) e
            (record { pieces = pieces; rest = rest; offset = o; split = split.1; fault = fault; place_is = refl }),
      )
