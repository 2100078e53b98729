-- What a derivation prints is read again as that derivation.
use Rattle.std.proofs.Common.{◌≡◌, ℕ, zero, suc, ◌<◌, ◌≤◌, Bool, true, false, not, cond, ◌&&◌, List, [], ◌∷◌, ◌++◌, refl, sym, ◌∙◌, ap, append_assoc, arith}
use Rattle.std.proofs.lemmas.List.{append-nil}
use Rattle.std.proofs.lemmas.Bool.{and_parts, eq-eqb}
use Rattle.grammar.specs.Classes.{are_apart, are_within, starts, Fits}
use Rattle.grammar.specs.Description.{Lexeme, Description, sequence, choice, repetition, rule, span, Derivation, d-token, d-empty, d-sequence, d-left, d-right, d-none, d-more, d-rule, d-span, d-short, print}
use Rattle.grammar.specs.Grammar.{Grammar, IsLl1, nullable, first, first_before, ok, shorts}
use Rattle.grammar.specs.Reading.{found, fault, as_part, goes_on, read}
use Rattle.grammar.proofs.Sets.{fits_within, fits_right, fits_start, no_start}
use Rattle.grammar.proofs.Beginning.{begins, fits_before, fits_turn, rule_ok, will_start}
use Rattle.grammar.proofs.Steps.{read_token_is, read_empty, sequence_found, left_found, right_found, none_found, more_read, rule_found, span_found, short_found}

module _ {Rule : Type 0} {body : Rule → Description Rule} (g : Grammar body) (l : IsLl1 g) where
  -- each derivation with fewer than k short rules is read again
  Again : ℕ → Type 0
  Again k = (d : Description Rule) (x : Derivation body d) → shorts x < k → (follow : List ℕ) (r : List Lexeme) → ok g d follow ≡ true → Fits follow r → read g d (print x ++ r) ≡ found x r

  choice_parts : (a b : Description Rule) (follow : List ℕ) → ok g (choice a b) follow ≡ true → (not (nullable g a) ≡ true) × (are_apart (first g a) (first_before g b follow) ≡ true) × (ok g a follow ≡ true) × (ok g b follow ≡ true)
  choice_parts a b follow o =
      let p = and_parts (not (nullable g a)) _ o in
      let q = and_parts (are_apart (first g a) (first_before g b follow)) _ p.1 in
      let s = and_parts (ok g a follow) (ok g b follow) q.1 in
      (p.0, q.0, s.0, s.1)

  repetition_parts : (a : Description Rule) (follow : List ℕ) → ok g (repetition a) follow ≡ true → (not (nullable g a) ≡ true) × (are_apart (first g a) follow ≡ true) × (ok g a (first g a ++ follow) ≡ true)
  repetition_parts a follow o =
      let p = and_parts (not (nullable g a)) _ o in
      let q = and_parts (are_apart (first g a) follow) (ok g a (first g a ++ follow)) p.1 in
      (p.0, q.0, q.1)

  span_parts : (long short : Rule) (b : Description Rule) (follow : List ℕ) → ok g (span long short b) follow ≡ true
      → (g.covers long short ≡ true) × (not (nullable g b) ≡ true) × (are_apart (first g b) follow ≡ true) × (are_within (first g b ++ follow) (g.follows long) ≡ true) × (ok g b follow ≡ true)
  span_parts long short b follow o =
      let p = and_parts (g.covers long short) _ o in
      let q = and_parts (not (nullable g b)) _ p.1 in
      let s = and_parts (are_apart (first g b) follow) _ q.1 in
      let t = and_parts (are_within (first g b ++ follow) (g.follows long)) (ok g b follow) s.1 in
      (p.0, q.0, s.0, t.0, t.1)

  no_turn : (a : Description Rule) (u : List Lexeme) → starts (first g a) u ≡ false → goes_on g a u ≡ false
  no_turn a u e = ap (λ z. not (nullable g a) && z) e ∙ by (not (nullable g a))
    where
      by : (b : Bool) → (b && false) ≡ false
      by true = refl
      by false = refl

  turn : (a : Description Rule) (u : List Lexeme) → not (nullable g a) ≡ true → starts (first g a) u ≡ true → goes_on g a u ≡ true
  turn a u n e = ap (λ z. z && starts (first g a) u) n ∙ e

  again_by : (k : ℕ) → Again k → {d : Description Rule} (x : Derivation body d) → shorts x ≤ k → (follow : List ℕ) (r : List Lexeme) → ok g d follow ≡ true → Fits follow r → read g d (print x ++ r) ≡ found x r
  unfolding Again
  again_by k P (d-token {c = c} text) n follow r o f = read_token_is g l c ((c, text) ∷ r) ∙ ap (λ b. cond b (found (d-token text) r) (fault ((c, text) ∷ r))) (eq-eqb c c refl)
  again_by k P d-empty n follow r o f = read_empty g l r
  again_by k P (d-sequence {a = a} {b = b} x y) n follow r o f =
      let p = and_parts (ok g a (first_before g b follow)) (ok g b follow) o in
      ap (read g (sequence a b)) (append_assoc (print x) (print y) r)
      ∙ sequence_found g l a b (print x ++ (print y ++ r)) (print y ++ r) r x y
      (again_by k P x (omega (arith, n)) (first_before g b follow) (print y ++ r) p.0 (fits_before g l b follow (print y) r (begins g l y) f))
      (again_by k P y (omega (arith, n)) follow r p.1 f)
  again_by k P (d-left {a = a} {b = b} x) n follow r o f =
      let p = choice_parts a b follow o in
      left_found g l a b (print x ++ r) r x (will_start g l a (print x) r p.0 (begins g l x)) (again_by k P x n follow r p.2 f)
  again_by k P (d-right {a = a} {b = b} y) n follow r o f =
      let p = choice_parts a b follow o in
      right_found g l a b (print y ++ r) r y (no_start (first g a) (first_before g b follow) (print y ++ r) p.1 (fits_before g l b follow (print y) r (begins g l y) f)) (again_by k P y n follow r p.3 f)
  again_by k P (d-none {a = a}) n follow r o f = none_found g l a r (no_turn a r (no_start (first g a) follow r (repetition_parts a follow o).1 f))
  again_by k P (d-more {a = a} x xs) n follow r o f =
      let p = repetition_parts a follow o in
      ap (read g (repetition a)) (append_assoc (print x) (print xs) r)
      ∙ more_read g l a (print x ++ (print xs ++ r)) (print xs ++ r) x (turn a (print x ++ (print xs ++ r)) p.0 (will_start g l a (print x) (print xs ++ r) p.0 (begins g l x)))
      (again_by k P x (omega (arith, n)) (first g a ++ follow) (print xs ++ r) p.2 (fits_turn g l a follow (print xs) r (begins g l xs) f))
      ∙ ap (as_part (d-more x)) (again_by k P xs (omega (arith, n)) follow r o f)
  again_by k P (d-rule {n = m} x) n follow r o f = rule_found g l m (print x ++ r) r x (again_by k P x n (g.follows m) r (rule_ok g l m) (fits_within follow (g.follows m) r o f))
  again_by k P (d-span {long = long} {short = short} {b = b} x y) n follow r o f =
      let p = span_parts long short b follow o in
      let starts_now = will_start g l b (print y) r p.1 (begins g l y) in
      ap (read g (span long short b)) (append_assoc (print x) (print y) r)
      ∙ span_found g l long short b (print x ++ (print y ++ r)) (print y ++ r) r x y
      (again_by k P x (omega (arith, n)) (first g b ++ follow) (print y ++ r) p.3 (fits_start (first g b) follow (print y ++ r) starts_now))
      starts_now
      (again_by k P y (omega (arith, n)) follow r p.4 f)
  again_by k P (d-short {long = long} {short = short} {b = b} z) n follow r o f =
      let p = span_parts long short b follow o in
      let longer = l.lengthened long short p.0 z in
      ap (λ w. read g (span long short b) (w ++ r)) (sym longer.same)
      ∙ short_found g l long short b (print longer.whole ++ r) r longer.whole z
      (P (rule long) longer.whole (omega (arith, n, longer.plain)) (first g b ++ follow) r p.3 (fits_right (first g b) follow r f))
      (no_start (first g b) follow r p.2 f)
      longer.is_shortened

  again : (k : ℕ) → Again k
  unfolding Again
  again zero d x n follow r o f = absurd (omega (arith, n))
  again (suc k) d x n follow r o f = again_by k (again k) x (omega (arith, n)) follow r o f

  -- what a derivation prints is read as it, before what can follow
  pub read_again : {d : Description Rule} (x : Derivation body d) (follow : List ℕ) (r : List Lexeme) → ok g d follow ≡ true → Fits follow r → read g d (print x ++ r) ≡ found x r
  unfolding Again
  read_again {d = d} x follow r o f = again (suc (shorts x)) d x (omega arith) follow r o f

  -- a rule's derivation is read from what it prints
  pub rule_read_again : (n : Rule) (x : Derivation body (rule n)) → read g (rule n) (print x) ≡ found x []
  rule_read_again n x = sym (ap (read g (rule n)) (append-nil (print x))) ∙ read_again x [] [] refl tt
