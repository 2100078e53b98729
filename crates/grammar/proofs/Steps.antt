-- The reader, description by description: first as equations, and then step by step for a search backwards.
use Rattle.std.proofs.Common.{◌≡◌, ℕ, Bool, true, false, cond, List, Some, None, refl, sym, ◌∙◌, ap}
use Rattle.std.proofs.Math.Path.{fun_ext}
use Rattle.grammar.specs.Classes.{starts}
use Rattle.grammar.specs.Description.{Lexeme, Description, token, empty, sequence, choice, repetition, rule, span, Derivation, d-empty, d-sequence, d-left, d-right, d-none, d-more, d-rule, d-span, d-short}
use Rattle.grammar.specs.Grammar.{Grammar, IsLl1, first}
use Rattle.grammar.specs.Reading.{Outcome, found, fault, and_then, as_part, Reader, read_token, goes_on, read_shortened, read_behind, step, read}
use Rattle.grammar.proofs.Level.{level}

module _ {Rule : Type 0} {body : Rule → Description Rule} (g : Grammar body) (l : IsLl1 g) where
  abbrev Readers : Type 0
  Readers = (d : Description Rule) → Reader g d

  same_reader : ◌≡◌ {A = Readers} (step g (read g)) (read g)
  same_reader = fun_ext (λ d. fun_ext (λ u. sym (level g l d u)))

  -- one step, where F is made of the readers of the parts
  by_step : (d : Description Rule) (u : List Lexeme) (F : Readers → Outcome (Derivation body d)) → step g (read g) d u ≡ F (step g (read g)) → read g d u ≡ F (read g)
  by_step d u F e = level g l d u ∙ e ∙ ap F same_reader

  pub read_token_is : (c : ℕ) (u : List Lexeme) → read g (token c) u ≡ read_token g c u
  read_token_is c u = level g l (token c) u

  pub read_empty : (u : List Lexeme) → read g empty u ≡ found d-empty u
  read_empty u = level g l empty u

  pub read_sequence : (a b : Description Rule) (u : List Lexeme) → read g (sequence a b) u ≡ and_then (read g a u) (λ x rest. as_part (d-sequence x) (read g b rest))
  read_sequence a b u = by_step (sequence a b) u (λ P. and_then (P a u) (λ x rest. as_part (d-sequence x) (P b rest))) refl

  pub read_choice : (a b : Description Rule) (u : List Lexeme) → read g (choice a b) u ≡ cond (starts (first g a) u) (as_part d-left (read g a u)) (as_part d-right (read g b u))
  read_choice a b u = by_step (choice a b) u (λ P. cond (starts (first g a) u) (as_part d-left (P a u)) (as_part d-right (P b u))) refl

  pub read_repetition : (a : Description Rule) (u : List Lexeme) → read g (repetition a) u ≡ cond (goes_on g a u) (and_then (read g a u) (λ x rest. as_part (d-more x) (read g (repetition a) rest))) (found d-none u)
  read_repetition a u = level g l (repetition a) u ∙ ap (λ P. cond (goes_on g a u) (and_then (P u) (λ x rest. as_part (d-more x) (read g (repetition a) rest))) (found d-none u)) (fun_ext (λ v. sym (level g l a v)))

  pub read_rule : (n : Rule) (u : List Lexeme) → read g (rule n) u ≡ as_part d-rule (read g (body n) u)
  read_rule n u = level g l (rule n) u

  pub read_span : (long short : Rule) (b : Description Rule) (u : List Lexeme) → read g (span long short b) u ≡ and_then (read g (rule long) u) (read_behind g long short b (read g b))
  read_span long short b u = by_step (span long short b) u (λ P. and_then (P (rule long) u) (read_behind g long short b (P b))) refl

  -- what is read in steps, from readings of the parts
  pub sequence_found : (a b : Description Rule) (u r s : List Lexeme) (x : Derivation body a) (y : Derivation body b) → read g a u ≡ found x r → read g b r ≡ found y s → read g (sequence a b) u ≡ found (d-sequence x y) s
  sequence_found a b u r s x y h k = read_sequence a b u ∙ ap (λ o. and_then o (λ x rest. as_part (d-sequence x) (read g b rest))) h ∙ ap (as_part (d-sequence x)) k

  pub sequence_fault : (a b : Description Rule) (u s : List Lexeme) → read g a u ≡ fault s → read g (sequence a b) u ≡ fault s
  sequence_fault a b u s h = read_sequence a b u ∙ ap (λ o. and_then o (λ x rest. as_part (d-sequence x) (read g b rest))) h

  pub sequence_fault_behind : (a b : Description Rule) (u r s : List Lexeme) (x : Derivation body a) → read g a u ≡ found x r → read g b r ≡ fault s → read g (sequence a b) u ≡ fault s
  sequence_fault_behind a b u r s x h k = read_sequence a b u ∙ ap (λ o. and_then o (λ x rest. as_part (d-sequence x) (read g b rest))) h ∙ ap (as_part (d-sequence x)) k

  chosen : (a b : Description Rule) (u : List Lexeme) (z : Bool) → starts (first g a) u ≡ z → read g (choice a b) u ≡ cond z (as_part d-left (read g a u)) (as_part d-right (read g b u))
  chosen a b u z e = read_choice a b u ∙ ap (λ z. cond z (as_part d-left (read g a u)) (as_part d-right (read g b u))) e

  pub left_found : (a b : Description Rule) (u s : List Lexeme) (x : Derivation body a) → starts (first g a) u ≡ true → read g a u ≡ found x s → read g (choice a b) u ≡ found (d-left x) s
  left_found a b u s x e h = chosen a b u true e ∙ ap (as_part d-left) h

  pub left_fault : (a b : Description Rule) (u s : List Lexeme) → starts (first g a) u ≡ true → read g a u ≡ fault s → read g (choice a b) u ≡ fault s
  left_fault a b u s e h = chosen a b u true e ∙ ap (as_part d-left) h

  pub right_found : (a b : Description Rule) (u s : List Lexeme) (y : Derivation body b) → starts (first g a) u ≡ false → read g b u ≡ found y s → read g (choice a b) u ≡ found (d-right y) s
  right_found a b u s y e h = chosen a b u false e ∙ ap (as_part d-right) h

  pub right_fault : (a b : Description Rule) (u s : List Lexeme) → starts (first g a) u ≡ false → read g b u ≡ fault s → read g (choice a b) u ≡ fault s
  right_fault a b u s e h = chosen a b u false e ∙ ap (as_part d-right) h

  pub rule_found : (n : Rule) (u s : List Lexeme) (x : Derivation body (body n)) → read g (body n) u ≡ found x s → read g (rule n) u ≡ found (d-rule x) s
  rule_found n u s x h = read_rule n u ∙ ap (as_part d-rule) h

  pub rule_fault : (n : Rule) (u s : List Lexeme) → read g (body n) u ≡ fault s → read g (rule n) u ≡ fault s
  rule_fault n u s h = read_rule n u ∙ ap (as_part d-rule) h

  turned : (a : Description Rule) (u : List Lexeme) (z : Bool) → goes_on g a u ≡ z → read g (repetition a) u ≡ cond z (and_then (read g a u) (λ x rest. as_part (d-more x) (read g (repetition a) rest))) (found d-none u)
  turned a u z e = read_repetition a u ∙ ap (λ z. cond z (and_then (read g a u) (λ x rest. as_part (d-more x) (read g (repetition a) rest))) (found d-none u)) e

  pub none_found : (a : Description Rule) (u : List Lexeme) → goes_on g a u ≡ false → read g (repetition a) u ≡ found d-none u
  none_found a u e = turned a u false e

  pub more_read : (a : Description Rule) (u r : List Lexeme) (x : Derivation body a) → goes_on g a u ≡ true → read g a u ≡ found x r → read g (repetition a) u ≡ as_part (d-more x) (read g (repetition a) r)
  more_read a u r x e h = turned a u true e ∙ ap (λ o. and_then o (λ x rest. as_part (d-more x) (read g (repetition a) rest))) h

  pub more_fault : (a : Description Rule) (u s : List Lexeme) → goes_on g a u ≡ true → read g a u ≡ fault s → read g (repetition a) u ≡ fault s
  more_fault a u s e h = turned a u true e ∙ ap (λ o. and_then o (λ x rest. as_part (d-more x) (read g (repetition a) rest))) h

  spanned : (long short : Rule) (b : Description Rule) (u r : List Lexeme) (x : Derivation body (rule long)) (z : Bool) → read g (rule long) u ≡ found x r → starts (first g b) r ≡ z
      → read g (span long short b) u ≡ cond z (as_part (d-span x) (read g b r)) (read_shortened g long short b (g.shorten long short x) r)
  spanned long short b u r x z h e = read_span long short b u ∙ ap (λ o. and_then o (read_behind g long short b (read g b))) h ∙ ap (λ z. cond z (as_part (d-span x) (read g b r)) (read_shortened g long short b (g.shorten long short x) r)) e

  pub span_found : (long short : Rule) (b : Description Rule) (u r s : List Lexeme) (x : Derivation body (rule long)) (y : Derivation body b) → read g (rule long) u ≡ found x r → starts (first g b) r ≡ true → read g b r ≡ found y s → read g (span long short b) u ≡ found (d-span x y) s
  span_found long short b u r s x y h e k = spanned long short b u r x true h e ∙ ap (as_part (d-span x)) k

  pub span_fault : (long short : Rule) (b : Description Rule) (u s : List Lexeme) → read g (rule long) u ≡ fault s → read g (span long short b) u ≡ fault s
  span_fault long short b u s h = read_span long short b u ∙ ap (λ o. and_then o (read_behind g long short b (read g b))) h

  pub span_fault_behind : (long short : Rule) (b : Description Rule) (u r s : List Lexeme) (x : Derivation body (rule long)) → read g (rule long) u ≡ found x r → starts (first g b) r ≡ true → read g b r ≡ fault s → read g (span long short b) u ≡ fault s
  span_fault_behind long short b u r s x h e k = spanned long short b u r x true h e ∙ ap (as_part (d-span x)) k

  pub short_found : (long short : Rule) (b : Description Rule) (u r : List Lexeme) (x : Derivation body (rule long)) (z : Derivation body (rule short)) → read g (rule long) u ≡ found x r → starts (first g b) r ≡ false → g.shorten long short x ≡ Some z → read g (span long short b) u ≡ found (d-short z) r
  short_found long short b u r x z h e k = spanned long short b u r x false h e ∙ ap (λ o. read_shortened g long short b o r) k

  pub short_fault : (long short : Rule) (b : Description Rule) (u r : List Lexeme) (x : Derivation body (rule long)) → read g (rule long) u ≡ found x r → starts (first g b) r ≡ false → g.shorten long short x ≡ None → read g (span long short b) u ≡ fault r
  short_fault long short b u r x h e k = spanned long short b u r x false h e ∙ ap (λ o. read_shortened g long short b o r) k
