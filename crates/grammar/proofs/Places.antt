-- The place of a fault, and where the reader stops.
use Rattle.std.proofs.Common.{◌≡◌, ◌≢◌, ℕ, zero, suc, ◌+◌, ◌<◌, ◌≤◌, ◌⊎◌, inl, inr, Some, List, [], ◌∷◌, ◌++◌, length, take, drop, refl, sym, ◌∙◌, ap, subst, append_assoc, length-append, arith}
use Rattle.std.proofs.Math.Seq.{take-append_seam, drop-append_seam}
use Rattle.std.proofs.lemmas.List.{append-nil, take-append-drop}
use Rattle.std.proofs.lemmas.Bool.{cases_lt}
use Rattle.grammar.specs.Classes.{next_class}
use Rattle.grammar.specs.Description.{Lexeme, Description, rule, Derivation, print}
use Rattle.grammar.specs.Fault.{CanBegin, IsFaultAt}
use Rattle.grammar.specs.Grammar.{Grammar, IsLl1}
use Rattle.grammar.specs.Laws.{ReadIsSpelled, HasOneDerivation, StopsAtFault, IsSpelledOrFaulty}
use Rattle.grammar.specs.Reading.{Outcome, found, fault, unfinished, read, StopsAt}
use Rattle.grammar.proofs.Sound.{IsSound}
use Rattle.grammar.proofs.Level.{read_finishes, sound}
use Rattle.grammar.proofs.Complete.{rule_read_again}

-- what stands between two places
record Between (u : List Lexeme) (j k : ℕ) : Type 0 where
  pub part : List Lexeme
  pub is : take k u ≡ take j u ++ part
  pub begins : (v : List Lexeme) → next_class (part ++ v) ≡ next_class (drop j u)

between : (u : List Lexeme) (j k : ℕ) → j < k → k ≤ length u → Between u j k
between [] j k h n = absurd (omega (arith, h, n))
between (y ∷ u) zero zero h n = absurd (omega (arith, h))
between (y ∷ u) zero (suc k) h n = record { part = y ∷ take k u; is = refl; begins = λ v. refl }
between (y ∷ u) (suc j) zero h n = absurd (omega (arith, h))
between (y ∷ u) (suc j) (suc k) h n =
    let b = between u j k (omega (arith, h)) (omega (arith, n)) in
    record { part = b.part; is = ap (λ w. y ∷ w) b.is; begins = b.begins }

module _ {Rule : Type 0} (body : Rule → Description Rule) (d : Description Rule) where
  no_later : (u : List Lexeme) (j k : ℕ) → IsFaultAt body d u j → IsFaultAt body d u k → j < k → ⊥
  no_later u j k p q h =
      let b = between u j k h q.within in
      p.no_further q.before.whole (b.part ++ q.before.more) (b.begins q.before.more)
      (q.before.begins ∙ ap (λ w. w ++ q.before.more) b.is ∙ append_assoc (take j u) b.part q.before.more)

  pub place_is_one : (u : List Lexeme) (j k : ℕ) → IsFaultAt body d u j → IsFaultAt body d u k → j ≡ k
  place_is_one u j k p q = by (cases_lt j k) (cases_lt k j)
    where
      by : (j < k) ⊎ (k ≤ j) → (k < j) ⊎ (j ≤ k) → j ≡ k
      by (inl h) m = absurd (no_later u j k p q h)
      by (inr h) (inl m) = absurd (no_later u k j q p m)
      by (inr h) (inr m) = omega (arith, h, m)

  pub not_spelled : (u : List Lexeme) (k : ℕ) → IsFaultAt body d u k → (x : Derivation body d) → print x ≢ u
  not_spelled u k p x = λ e. p.no_further x (drop k u) refl (e ∙ sym (take-append-drop k u))

  -- behind a front that is the beginning of a print
  pub fault_behind : (u front s : List Lexeme) → u ≡ front ++ s → CanBegin body d front → ((x : Derivation body d) (rest : List Lexeme) → next_class rest ≡ next_class s → print x ≢ front ++ rest) → IsFaultAt body d u (length front)
  fault_behind u front s e c never =
      let taken : take (length front) u ≡ front = ap (take (length front)) e ∙ take-append_seam front s in
      let dropped : drop (length front) u ≡ s = ap (drop (length front)) e ∙ drop-append_seam front s in
      record {
        within = omega (arith, ap length e, length-append front s);
        before = record { whole = c.whole; more = c.more; begins = c.begins ∙ ap (λ w. w ++ c.more) (sym taken) };
        no_further = λ x rest h. λ is. never x rest (h ∙ ap next_class dropped) (is ∙ ap (λ w. w ++ rest) taken);
      }

  -- the place behind what was taken
  at_place : (u took rest : List Lexeme) (k : ℕ) → u ≡ took ++ rest → k + length rest ≡ length u → IsFaultAt body d u (length took) → IsFaultAt body d u k
  at_place u took rest k e h p =
      let same : length took ≡ k = omega (arith, h, ap length e, length-append took rest) in
      let P : ℕ → Type 0 = λ j. IsFaultAt body d u j in subst P same p

module _ {Rule : Type 0} {body : Rule → Description Rule} (g : Grammar body) (l : IsLl1 g) where
  pub is_spelled : ReadIsSpelled g
  is_spelled d u rest x e =
      let S : Outcome (Derivation body d) → Type 0 = λ o. IsSound g d [] (read g d) u o in
      let h = subst S e (sound g l d u) in
      h.splits ∙ ap (λ w. w ++ rest) (sym h.says)

  pub one_derivation : HasOneDerivation g
  one_derivation n x y e =
      let same : found x [] ≡ found y [] = sym (rule_read_again g l n x) ∙ ap (read g (rule n)) e ∙ rule_read_again g l n y in
      let get : Outcome (Derivation body (rule n)) → Derivation body (rule n) = elim [ found z r ↦ z | fault r ↦ x | unfinished ↦ x ] in
      ap get same

  -- what the reader leaves where it does not find a whole derivation of the list
  module _ (n : Rule) (u : List Lexeme) where
    -- an outcome that leaves rest cannot come behind a whole print
    no_print : (took rest : List Lexeme) (o : Outcome (Derivation body (rule n))) → ((x : Derivation body (rule n)) → found x [] ≡ o → ⊥) → read g (rule n) (took ++ rest) ≡ o → (x : Derivation body (rule n)) → print x ≢ took ++ rest
    no_print took rest o never e x is = never x (sym (rule_read_again g l n x) ∙ ap (read g (rule n)) is ∙ e)

    -- the fault is where the reader stops
    fault_at : (o : Outcome (Derivation body (rule n))) → IsSound g (rule n) [] (read g (rule n)) u o → (k : ℕ) → StopsAt o u k → IsFaultAt body (rule n) u k
    fault_at (found x []) h k e = absurd e
    fault_at (found x (y ∷ rest)) h k e = at_place body (rule n) u h.took (y ∷ rest) k h.splits e (fault_behind body (rule n) u h.took (y ∷ rest) h.splits (record { whole = x; more = []; begins = h.says ∙ sym (append-nil h.took) })
        (λ z r same. no_print h.took r (found x r) (λ w. leaves_some x w y r same) (h.local r same) z))
      where
        leaves_some : (x w : Derivation body (rule n)) (y : Lexeme) (r : List Lexeme) → next_class r ≡ Some y.0 → found w [] ≡ found x r → ⊥
        leaves_some x w y [] same is = cc
        leaves_some x w y (v ∷ r) same is = cc
    fault_at (fault rest) h k e = at_place body (rule n) u h.took rest k h.splits e (fault_behind body (rule n) u h.took rest h.splits h.says
        (λ z r same. no_print h.took r (fault r) (λ w is. cc) (h.local r same) z))
    fault_at unfinished h k e = absurd e

    stop_of : (o : Outcome (Derivation body (rule n))) → read g (rule n) u ≡ o → ((x : Derivation body (rule n)) × (print x ≡ u)) ⊎ ((k : ℕ) × StopsAt o u k)
    stop_of (found x []) e = inl (x, sym (is_spelled (rule n) u [] x e ∙ append-nil (print x)))
    stop_of (found x (y ∷ rest)) e = inr (length (print x), sym (ap length (is_spelled (rule n) u (y ∷ rest) x e) ∙ length-append (print x) (y ∷ rest)))
    stop_of (fault rest) e =
        let S : Outcome (Derivation body (rule n)) → Type 0 = λ o. IsSound g (rule n) [] (read g (rule n)) u o in
        let h = subst S e (sound g l (rule n) u) in
        inr (length h.took, sym (ap length h.splits ∙ length-append h.took rest))
    stop_of unfinished e = absurd (read_finishes g l (rule n) u e)

  pub spelled_or_faulty : IsSpelledOrFaulty g
  spelled_or_faulty n u = by (stop_of n u (read g (rule n) u) refl)
    where
      by : ((x : Derivation body (rule n)) × (print x ≡ u)) ⊎ ((k : ℕ) × StopsAt (read g (rule n) u) u k) → ((x : Derivation body (rule n)) × (print x ≡ u)) ⊎ ((k : ℕ) × IsFaultAt body (rule n) u k)
      by (inl x) = inl x
      by (inr s) = inr (s.0, fault_at n u (read g (rule n) u) (sound g l (rule n) u) s.0 s.1)

  pub stops_at_fault : StopsAtFault g
  stops_at_fault n u k = (λ p. by p (stop_of n u (read g (rule n) u) refl), λ e. fault_at n u (read g (rule n) u) (sound g l (rule n) u) k e)
    where
      by : IsFaultAt body (rule n) u k → ((x : Derivation body (rule n)) × (print x ≡ u)) ⊎ ((k : ℕ) × StopsAt (read g (rule n) u) u k) → StopsAt (read g (rule n) u) u k
      by p (inl x) = absurd (not_spelled body (rule n) u k p x.0 x.1)
      by p (inr s) =
          let q = fault_at n u (read g (rule n) u) (sound g l (rule n) u) s.0 s.1 in
          let S : ℕ → Type 0 = λ j. StopsAt (read g (rule n) u) u j in subst S (place_is_one body (rule n) u s.0 k q p) s.1
