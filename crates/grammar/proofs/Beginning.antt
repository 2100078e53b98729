-- How the lexemes of a derivation begin.
use Rattle.std.proofs.Common.{◌≡◌, ℕ, ◌+◌, ◌≤◌, Bool, true, false, not, cond, ◌&&◌, ◌||◌, nat_lt, List, [], ◌∷◌, ◌++◌, length, length-append, Option, Some, None, refl, ap, sym, subst, ◌∙◌, arith}
use Rattle.std.proofs.lemmas.Bool.{and_parts, eq-eqb, not-true}
use Rattle.grammar.specs.Classes.{is_among, are_within, next_class, starts, Fits}
use Rattle.grammar.specs.Description.{Lexeme, Description, sequence, choice, repetition, rule, span, Derivation, d-token, d-empty, d-sequence, d-left, d-right, d-none, d-more, d-rule, d-span, d-short, print}
use Rattle.grammar.specs.Grammar.{Grammar, IsLl1, nullable, first, first_before, ok, begins_below}
use Rattle.grammar.proofs.Sets.{or_right, among_left, among_right, within, fits_right}

module _ {Rule : Type 0} {body : Rule → Description Rule} (g : Grammar body) (l : IsLl1 g) where
  -- the parts of the test
  rule_parts : (n : Rule) → ((not (nullable g (body n)) || g.can_be_empty n) ≡ true) × (are_within (first g (body n)) (g.firsts n) ≡ true) × (ok g (body n) (g.follows n) ≡ true) × (begins_below g (g.rank n) (body n) ≡ true) × (nat_lt (g.rank n) g.ranks ≡ true)
  rule_parts n =
      let p = and_parts (not (nullable g (body n)) || g.can_be_empty n) _ (l.test n) in
      let q = and_parts (are_within (first g (body n)) (g.firsts n)) _ p.1 in
      let r = and_parts (ok g (body n) (g.follows n)) _ q.1 in
      let s = and_parts (begins_below g (g.rank n) (body n)) (nat_lt (g.rank n) g.ranks) r.1 in
      (p.0, q.0, r.0, s.0, s.1)

  pub rule_ok : (n : Rule) → ok g (body n) (g.follows n) ≡ true
  rule_ok n = (rule_parts n).2

  pub rule_begins : (n : Rule) → (begins_below g (g.rank n) (body n) ≡ true) × (nat_lt (g.rank n) g.ranks ≡ true)
  rule_begins n = ((rule_parts n).3, (rule_parts n).4)

  pub rule_nullable : (n : Rule) → nullable g (body n) ≡ true → g.can_be_empty n ≡ true
  rule_nullable n e = ap (λ z. not z || g.can_be_empty n) (sym e) ∙ (rule_parts n).0

  abbrev pub Begins : Description Rule → Option ℕ → Type 0
  Begins d None = nullable g d ≡ true
  Begins d (Some c) = is_among c (first g d) ≡ true

  begins_sequence : (a b : Description Rule) (u v : List Lexeme) → Begins a (next_class u) → Begins b (next_class v) → Begins (sequence a b) (next_class (u ++ v))
  begins_sequence a b [] [] h k = ap (λ x. x && nullable g b) h ∙ k
  begins_sequence a b [] (y ∷ v) h k = ap (λ x. is_among y.0 (first g a ++ cond x (first g b) [])) h ∙ among_right y.0 (first g a) (first g b) k
  begins_sequence a b (x ∷ u) v h k = among_left x.0 (first g a) (cond (nullable g a) (first g b) []) h

  begins_left : (a b : Description Rule) (o : Option ℕ) → Begins a o → Begins (choice a b) o
  begins_left a b None h = ap (λ x. x || nullable g b) h
  begins_left a b (Some c) h = among_left c (first g a) (first g b) h

  begins_right : (a b : Description Rule) (o : Option ℕ) → Begins b o → Begins (choice a b) o
  begins_right a b None h = ap (λ x. nullable g a || x) h ∙ or_right (nullable g a)
  begins_right a b (Some c) h = among_right c (first g a) (first g b) h

  begins_more : (a : Description Rule) (u v : List Lexeme) → Begins a (next_class u) → Begins (repetition a) (next_class v) → Begins (repetition a) (next_class (u ++ v))
  begins_more a [] v h k = k
  begins_more a (x ∷ u) v h k = h

  begins_rule : (n : Rule) (o : Option ℕ) → Begins (body n) o → Begins (rule n) o
  begins_rule n None h = rule_nullable n h
  begins_rule n (Some c) h = within c (first g (body n)) (g.firsts n) (rule_parts n).1 h

  begins_span : (long short : Rule) (b : Description Rule) (o : Option ℕ) → Begins (choice (sequence (rule long) b) (rule short)) o → Begins (span long short b) o
  begins_span long short b None h = h
  begins_span long short b (Some c) h = h

  pub begins : {d : Description Rule} (x : Derivation body d) → Begins d (next_class (print x))
  begins (d-token {c = c} text) = ap (λ b. b || false) (eq-eqb c c refl)
  begins d-empty = refl
  begins (d-sequence {a = a} {b = b} x y) = begins_sequence a b (print x) (print y) (begins x) (begins y)
  begins (d-left {a = a} {b = b} x) = begins_left a b (next_class (print x)) (begins x)
  begins (d-right {a = a} {b = b} y) = begins_right a b (next_class (print y)) (begins y)
  begins d-none = refl
  begins (d-more {a = a} x xs) = begins_more a (print x) (print xs) (begins x) (begins xs)
  begins (d-rule {n = n} x) = begins_rule n (next_class (print x)) (begins x)
  begins (d-span {long = long} {short = short} {b = b} x y) =
      let both = print x ++ print y in
      begins_span long short b (next_class both) (begins_left (sequence (rule long) b) (rule short) (next_class both) (begins_sequence (rule long) b (print x) (print y) (begins x) (begins y)))
  begins (d-short {long = long} {short = short} {b = b} z) =
      begins_span long short b (next_class (print z)) (begins_right (sequence (rule long) b) (rule short) (next_class (print z)) (begins z))

  pub fits_before : (b : Description Rule) (follow : List ℕ) (u r : List Lexeme) → Begins b (next_class u) → Fits follow r → Fits (first_before g b follow) (u ++ r)
  fits_before b follow [] r h k = let P : Bool → Type 0 = λ n. Fits (first g b ++ cond n follow []) r in subst P (sym h) (fits_right (first g b) follow r k)
  fits_before b follow (x ∷ u) r h k = among_left x.0 (first g b) (cond (nullable g b) follow []) h

  pub fits_turn : (a : Description Rule) (follow : List ℕ) (u r : List Lexeme) → Begins (repetition a) (next_class u) → Fits follow r → Fits (first g a ++ follow) (u ++ r)
  fits_turn a follow [] r h k = fits_right (first g a) follow r k
  fits_turn a follow (x ∷ u) r h k = among_left x.0 (first g a) follow h

  pub will_start : (a : Description Rule) (u r : List Lexeme) → not (nullable g a) ≡ true → Begins a (next_class u) → starts (first g a) (u ++ r) ≡ true
  will_start a [] r h k = let no : nullable g a ≡ false = not-true (nullable g a) h in cc
  will_start a (x ∷ u) r h k = k

  -- what is not empty takes a lexeme
  pub takes_some : {d : Description Rule} (x : Derivation body d) (u rest : List Lexeme) → nullable g d ≡ false → u ≡ print x ++ rest → length rest + 1 ≤ length u
  takes_some {d = d} x u rest n e = by (print x) (begins x) e
    where
      by : (took : List Lexeme) → Begins d (next_class took) → u ≡ took ++ rest → length rest + 1 ≤ length u
      by [] b e = cc
      by (y ∷ took) b e = omega (arith, ap length e, length-append took rest)
