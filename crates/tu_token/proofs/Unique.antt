-- A source is one list of tokens, and has one first fault.
use Rattle.std.proofs.Common.{◌≡◌, ℕ, zero, suc, ◌<◌, ◌≤◌, List, [], ◌∷◌, length, length-take, take, drop, refl, ap, sym, ◌∙◌, subst, arith, inl, inr}
use Rattle.std.specs.Prelude.{Option, Some, None, IsSome}
use Rattle.std.proofs.lemmas.Bool.{cases_lt}
use Rattle.tu_token.specs.declared.fault.LexError.{LexError}
use Rattle.tu_token.specs.TokenList.{TokenList}
use Rattle.tu_token.specs.Lexemes.{shape_of, Shape, IsPiece, IsSplit, tokens_of, line_after, IsLexed}
use Rattle.tu_token.specs.LexFaults.{FaultKind, rank, error_of, GoesBefore, IsLexFault, BadByte, BadNumber, OpenText, LongText, OpenComment, LongName, TooMany, TooDeep}

cut : (o : Option Shape) → IsSome o → o ≡ None → ⊥
cut None s e = absurd (cc)
cut (Some x) s e = absurd (cc)

-- the longest piece in front is no shorter than another one
not_shorter : (a b source : List ℕ) → IsPiece a source → IsPiece b source → length a < length b → length b ≤ length source → ⊥
not_shorter a b source p q less within =
    let none : shape_of (take (length b) source) ≡ None = p.longest (length b) less within in
    cut (shape_of b) q.shaped (ap shape_of (sym q.front) ∙ none)

pub within : (text source : List ℕ) → take (length text) source ≡ text → length text ≤ length source
within text source e = let l : length (take (length text) source) ≡ length text = ap (λ (x : List ℕ). length x) e in omega (arith, l, length-take (length text) source)

same_length : (a b source : List ℕ) → IsPiece a source → IsPiece b source → length a ≡ length b
same_length a b source p q =
    elim (cases_lt (length a) (length b)) [
      | inl h ↦ absurd (not_shorter a b source p q h (within b source q.front))
      | inr h ↦ elim (cases_lt (length b) (length a)) [
        | inl k ↦ absurd (not_shorter b a source q p k (within a source p.front))
        | inr k ↦ omega arith
      ]
    ]

pub one_piece : (a b source : List ℕ) → IsPiece a source → IsPiece b source → a ≡ b
one_piece a b source p q = sym p.front ∙ (ap (λ n. take n source) (same_length a b source p q) ∙ q.front)

-- nothing is no piece
pub no_piece : (text : List ℕ) → IsPiece text [] → ⊥
no_piece [] p = absurd (cut None p.shaped refl)
no_piece (b ∷ text) p = absurd (let e : [] ≡ b ∷ text = p.front in cc)

one_split : (pieces others : List (List ℕ)) (source : List ℕ) → IsSplit pieces source [] → IsSplit others source [] → pieces ≡ others
one_split [] [] source p q = refl
one_split [] (b ∷ others) source p q = absurd (no_piece b (subst (λ x. IsPiece b x) p q.0))
one_split (a ∷ pieces) [] source p q = absurd (no_piece a (subst (λ x. IsPiece a x) q p.0))
one_split (a ∷ pieces) (b ∷ others) source p q =
    let e : a ≡ b = one_piece a b source p.0 q.0 in
    let t : IsSplit others (drop (length a) source) [] = subst (λ (x : List ℕ). IsSplit others (drop (length x) source) []) (sym e) q.1 in
    let r : pieces ≡ others = one_split pieces others (drop (length a) source) p.1 t in
    ap (λ x. x ∷ pieces) e ∙ ap (λ x. b ∷ x) r

same_list : (a b : TokenList) → a.items ≡ b.items → a.start ≡ b.start → a.line ≡ b.line → a ≡ b
same_list a b e f g = λ i. record { items = e i; start = f i; line = g i }

pub one_list : (source : List ℕ) (a b : TokenList) → IsLexed source a → IsLexed source b → a ≡ b
one_list source a b p q =
    let e : p.pieces ≡ q.pieces = one_split p.pieces q.pieces source p.split q.split in
    same_list a b (p.items ∙ (ap (λ x. tokens_of 0 1 x) e ∙ sym q.items)) (p.start ∙ sym q.start) (p.line ∙ sym q.line)

abbrev kind_of : ℕ → FaultKind
kind_of zero = BadByte
kind_of (suc zero) = BadNumber
kind_of (suc (suc zero)) = OpenText
kind_of (suc (suc (suc zero))) = LongText
kind_of (suc (suc (suc (suc zero)))) = OpenComment
kind_of (suc (suc (suc (suc (suc zero))))) = LongName
kind_of (suc (suc (suc (suc (suc (suc zero)))))) = TooMany
kind_of (suc (suc (suc (suc (suc (suc (suc n))))))) = TooDeep

kind_again : (k : FaultKind) → kind_of (rank k) ≡ k
kind_again BadByte = refl
kind_again BadNumber = refl
kind_again OpenText = refl
kind_again LongText = refl
kind_again OpenComment = refl
kind_again LongName = refl
kind_again TooMany = refl
kind_again TooDeep = refl

same_kind : (k l : FaultKind) → rank k ≡ rank l → k ≡ l
same_kind k l e = sym (kind_again k) ∙ (ap kind_of e ∙ kind_again l)

both_ways : (p q : ℕ) (k l : FaultKind) → GoesBefore p k q l → GoesBefore q l p k → (p ≡ q) × (rank k ≡ rank l)
both_ways p q k l (inl h) (inl i) = absurd (omega arith)
both_ways p q k l (inl h) (inr i) = absurd (let e = i.0 in omega arith)
both_ways p q k l (inr h) (inl i) = absurd (let e = h.0 in omega arith)
both_ways p q k l (inr h) (inr i) = let a = h.1 in let b = i.1 in (h.0, omega arith)

pub one_first : (source : List ℕ) (a b : LexError) → IsLexFault source a → IsLexFault source b → a ≡ b
one_first source a b p q =
    let e = both_ways p.place q.place p.kind q.kind (p.first q.kind q.place q.fault) (q.first p.kind p.place p.fault) in
    p.error_is ∙ (ap (λ k. error_of k (line_after 1 (take p.place source))) (same_kind p.kind q.kind e.1) ∙ (ap (λ n. error_of q.kind (line_after 1 (take n source))) e.0 ∙ sym q.error_is))
