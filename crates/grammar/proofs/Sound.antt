-- What the reader found stands before what is left, and what it took before a fault begins a derivation. It looks no further than the next lexeme.
use Rattle.std.proofs.Common.{◌≡◌, ℕ, zero, suc, Bool, true, false, not, cond, ◌&&◌, ◌==◌, List, [], ◌∷◌, ◌++◌, Option, Some, None, refl, sym, ◌∙◌, ap, subst, append_assoc}
use Rattle.std.proofs.lemmas.List.{append-nil}
use Rattle.std.proofs.lemmas.Bool.{eqb-true, eq-eqb}
use Rattle.grammar.specs.Classes.{is_class_among, next_class}
use Rattle.grammar.specs.Description.{Lexeme, Description, token, empty, sequence, choice, repetition, rule, span, Derivation, d-token, d-empty, d-sequence, d-left, d-right, d-none, d-more, d-rule, d-span, d-short, print}
use Rattle.grammar.specs.Fault.{CanBegin}
use Rattle.grammar.specs.Grammar.{Grammar, IsLl1, nullable, first}
use Rattle.grammar.specs.Reading.{Outcome, found, fault, unfinished, and_then, as_part, Reader, read_token, read_shortened, read_behind, step, read_within}
use Rattle.grammar.specs.Tree.{erase}
use Rattle.grammar.proofs.Sets.{next-append}

-- the lexemes that an outcome has left, and the outcome with others in their place
abbrev pub left : {A : Type 0} → Outcome A → List Lexeme
left (found x rest) = rest
left (fault rest) = rest
left unfinished = []

abbrev pub leaving : {A : Type 0} → Outcome A → List Lexeme → Outcome A
leaving (found x rest) r = found x r
leaving (fault rest) r = fault r
leaving unfinished r = unfinished

module _ {Rule : Type 0} {body : Rule → Description Rule} (g : Grammar body) where
  -- what is found prints the lexemes, and a fault is behind the beginning of some print
  abbrev pub Says : (d : Description Rule) → List Lexeme → Outcome (Derivation body d) → Type 0
  Says d u (found x rest) = print x ≡ u
  Says d u (fault rest) = CanBegin body d u
  Says d u unfinished = Unit {0}

  -- the outcome of Q at u, behind lexemes p that were read
  pub record IsSound (d : Description Rule) (p : List Lexeme) (Q : Reader g d) (u : List Lexeme) (o : Outcome (Derivation body d)) : Type 0 where
    pub took : List Lexeme
    pub splits : u ≡ took ++ left o
    pub says : Says d (p ++ took) o
    pub local : (r : List Lexeme) → next_class r ≡ next_class (left o) → Q (took ++ r) ≡ leaving o r

  abbrev pub Sound : (d : Description Rule) → List Lexeme → Reader g d → Type 0
  Sound d p Q = (u : List Lexeme) → IsSound d p Q u (Q u)

  -- another reader that agrees on what begins with the next lexeme
  change : (d : Description Rule) (p : List Lexeme) (Q R : Reader g d) (u : List Lexeme) (o : Outcome (Derivation body d)) → ((v : List Lexeme) → next_class v ≡ next_class u → Q v ≡ R v) → IsSound d p Q u o → IsSound d p R u o
  change d p Q R u o same h = record {
    took = h.took;
    splits = h.splits;
    says = h.says;
    local = λ r e. sym (same (h.took ++ r) (next-append h.took r (left o) e ∙ ap next_class (sym h.splits))) ∙ h.local r e;
  }

  abbrev chosen : (d : Description Rule) → (Option ℕ → Bool) → Reader g d → Reader g d → Reader g d
  chosen d test Q R u = cond (test (next_class u)) (Q u) (R u)

  choose_sound : (d : Description Rule) (p : List Lexeme) (test : Option ℕ → Bool) (Q R : Reader g d) → Sound d p Q → Sound d p R → Sound d p (chosen d test Q R)
  choose_sound d p test Q R sq sr u = by (test (next_class u)) refl
    where
      by : (b : Bool) → test (next_class u) ≡ b → IsSound d p (chosen d test Q R) u (cond b (Q u) (R u))
      by true e = change d p Q (chosen d test Q R) u (Q u) (λ v h. sym (ap (λ b. cond b (Q v) (R v)) (ap test h ∙ e))) (sq u)
      by false e = change d p R (chosen d test Q R) u (R u) (λ v h. sym (ap (λ b. cond b (Q v) (R v)) (ap test h ∙ e))) (sr u)

  -- each derivation of a is made one of d that begins with p and then its lexemes
  part_sound : (a d : Description Rule) (p : List Lexeme) (make : Derivation body a → Derivation body d) → ((x : Derivation body a) → print (make x) ≡ p ++ print x)
      → (Q : Reader g a) → Sound a [] Q → Sound d p (λ u. as_part make (Q u))
  part_sound a d p make spells Q sq u = by (Q u) (sq u)
    where
      by : (o : Outcome (Derivation body a)) → IsSound a [] Q u o → IsSound d p (λ u. as_part make (Q u)) u (as_part make o)
      by (found x rest) h = record { took = h.took; splits = h.splits; says = spells x ∙ ap (λ w. p ++ w) h.says; local = λ r e. ap (as_part make) (h.local r e) }
      by (fault rest) h = record { took = h.took; splits = h.splits; says = made h.took h.says; local = λ r e. ap (as_part make) (h.local r e) }
        where
          made : (took : List Lexeme) → CanBegin body a took → CanBegin body d (p ++ took)
          made took c = record { whole = make c.whole; more = c.more; begins = spells c.whole ∙ ap (λ w. p ++ w) c.begins ∙ sym (append_assoc p took c.more) }
      by unfinished h = record { took = h.took; splits = h.splits; says = tt; local = λ r e. ap (as_part make) (h.local r e) }

  abbrev both : (a d : Description Rule) → Reader g a → (Derivation body a → Reader g d) → Reader g d
  both a d Q K u = and_then (Q u) K

  then_sound : (a d : Description Rule) (Q : Reader g a) (K : Derivation body a → Reader g d) → ((x : Derivation body a) → CanBegin body d (print x))
      → Sound a [] Q → ((x : Derivation body a) → Sound d (print x) (K x)) → Sound d [] (both a d Q K)
  then_sound a d Q K extends sq sk u = by (Q u) (sq u)
    where
      behind : (x : Derivation body a) (rest : List Lexeme) → IsSound a [] Q u (found x rest) → (o : Outcome (Derivation body d)) → IsSound d (print x) (K x) rest o → IsSound d [] (both a d Q K) u o
      behind x rest h o k = record {
        took = h.took ++ k.took;
        splits = h.splits ∙ ap (λ w. h.took ++ w) k.splits ∙ sym (append_assoc h.took k.took (left o));
        says = let P : List Lexeme → Type 0 = λ w. Says d (w ++ k.took) o in subst P h.says k.says;
        local = λ r e.
            ap (both a d Q K) (append_assoc h.took k.took r)
            ∙ ap (λ o. and_then o K) (h.local (k.took ++ r) (next-append k.took r (left o) e ∙ ap next_class (sym k.splits)))
            ∙ k.local r e;
      }

      longer : (took : List Lexeme) → CanBegin body a took → CanBegin body d took
      longer took c =
          let more = extends c.whole in
          record { whole = more.whole; more = c.more ++ more.more; begins = more.begins ∙ ap (λ w. w ++ more.more) c.begins ∙ append_assoc took c.more more.more }

      by : (o : Outcome (Derivation body a)) → IsSound a [] Q u o → IsSound d [] (both a d Q K) u (and_then o K)
      by (found x rest) h = behind x rest h (K x rest) (sk x rest)
      by (fault rest) h = record { took = h.took; splits = h.splits; says = longer h.took h.says; local = λ r e. ap (λ o. and_then o K) (h.local r e) }
      by unfinished h = record { took = h.took; splits = h.splits; says = tt; local = λ r e. ap (λ o. and_then o K) (h.local r e) }

  -- each description has a derivation
  some_of : (d : Description Rule) → Derivation body d
  some_of (token c) = d-token []
  some_of empty = d-empty
  some_of (sequence a b) = d-sequence (some_of a) (some_of b)
  some_of (choice a b) = d-left (some_of a)
  some_of (repetition a) = d-none
  some_of (rule n) = d-rule (erase (g.some n))
  some_of (span long short b) = d-span (d-rule (erase (g.some long))) (some_of b)

  -- a fault at once
  fails_at : (d : Description Rule) (p : List Lexeme) (Q : Reader g d) (u : List Lexeme) → CanBegin body d (p ++ []) → ((r : List Lexeme) → next_class r ≡ next_class u → Q r ≡ fault r) → IsSound d p Q u (fault u)
  fails_at d p Q u c same = record { took = []; splits = refl; says = c; local = same }

  token_sound : (c : ℕ) → Sound (token c) [] (read_token g c)
  token_sound c [] = fails_at (token c) [] (read_token g c) [] (record { whole = d-token []; more = (c, []) ∷ []; begins = refl }) at_end
    where
      at_end : (r : List Lexeme) → next_class r ≡ None → read_token g c r ≡ fault r
      at_end [] e = refl
      at_end (y ∷ v) e = cc
  token_sound c (x ∷ u) = by (x.0 == c) refl
    where
      by : (b : Bool) → (x.0 == c) ≡ b → IsSound (token c) [] (read_token g c) (x ∷ u) (cond b (found (d-token x.1) u) (fault (x ∷ u)))
      by true e = record {
        took = (c, x.1) ∷ [];
        splits = ap (λ k. (k, x.1) ∷ u) (eqb-true x.0 c e);
        says = refl;
        local = λ r h. ap (λ b. cond b (found (d-token x.1) r) (fault ((c, x.1) ∷ r))) (eq-eqb c c refl);
      }
      by false e = fails_at (token c) [] (read_token g c) (x ∷ u) (record { whole = d-token []; more = (c, []) ∷ []; begins = refl }) other
        where
          other : (r : List Lexeme) → next_class r ≡ Some x.0 → read_token g c r ≡ fault r
          other [] h = cc
          other (y ∷ v) h = let same : y.0 ≡ x.0 = cc in ap (λ b. cond b (found (d-token y.1) v) (fault (y ∷ v))) (ap (λ k. k == c) same ∙ e)

  found_sound : (d : Description Rule) (p : List Lexeme) (x : Derivation body d) → print x ≡ p ++ [] → Sound d p (λ u. found x u)
  found_sound d p x e u = record { took = []; splits = refl; says = e; local = λ r h. refl }

  module _ (l : IsLl1 g) where
    shortened_sound : (long short : Rule) (b : Description Rule) (x : Derivation body (rule long)) (o : Option (Derivation body (rule short))) → g.shorten long short x ≡ o
        → Sound (span long short b) (print x) (read_shortened g long short b o)
    shortened_sound long short b x None e u = fails_at (span long short b) (print x) (λ u. fault u) u (record { whole = d-span x (some_of b); more = print (some_of b); begins = ap (λ w. w ++ print (some_of b)) (sym (append-nil (print x))) }) (λ r h. refl)
    shortened_sound long short b x (Some z) e u = found_sound (span long short b) (print x) (d-short z) (l.shortened long short x z e ∙ sym (append-nil (print x))) u

    step_sound : (P : (d : Description Rule) → Reader g d) → ((d : Description Rule) → Sound d [] (P d)) → (d : Description Rule) → Sound d [] (step g P d)
    step_sound P s (token c) = token_sound c
    step_sound P s empty = found_sound empty [] d-empty refl
    step_sound P s (sequence a b) =
        then_sound a (sequence a b) (step g P a) (λ x r. as_part (d-sequence x) (step g P b r)) (λ x. record { whole = d-sequence x (some_of b); more = print (some_of b); begins = refl })
        (step_sound P s a) (λ x. part_sound b (sequence a b) (print x) (d-sequence x) (λ y. refl) (step g P b) (step_sound P s b))
    step_sound P s (choice a b) =
        choose_sound (choice a b) [] (is_class_among (first g a)) _ _
        (part_sound a (choice a b) [] d-left (λ x. refl) (step g P a) (step_sound P s a))
        (part_sound b (choice a b) [] d-right (λ x. refl) (step g P b) (step_sound P s b))
    step_sound P s (repetition a) =
        choose_sound (repetition a) [] (λ o. not (nullable g a) && is_class_among (first g a) o) _ _
        (then_sound a (repetition a) (step g P a) (λ x r. as_part (d-more x) (P (repetition a) r)) (λ x. record { whole = d-more x d-none; more = []; begins = refl })
        (step_sound P s a) (λ x. part_sound (repetition a) (repetition a) (print x) (d-more x) (λ y. refl) (P (repetition a)) (s (repetition a))))
        (found_sound (repetition a) [] d-none refl)
    step_sound P s (rule n) = part_sound (body n) (rule n) [] d-rule (λ x. refl) (P (body n)) (s (body n))
    step_sound P s (span long short b) =
        then_sound (rule long) (span long short b) (λ u. as_part d-rule (P (body long) u)) (read_behind g long short b (step g P b))
        (λ x. record { whole = d-span x (some_of b); more = print (some_of b); begins = refl })
        (part_sound (body long) (rule long) [] d-rule (λ x. refl) (P (body long)) (s (body long)))
        (λ x. choose_sound (span long short b) (print x) (is_class_among (first g b)) _ _
        (part_sound b (span long short b) (print x) (d-span x) (λ y. refl) (step g P b) (step_sound P s b))
        (shortened_sound long short b x (g.shorten long short x) refl))

    pub read_sound : (depth : ℕ) (d : Description Rule) → Sound d [] (read_within g depth d)
    read_sound zero d u = record { took = u; splits = sym (append-nil u); says = tt; local = λ r e. refl }
    read_sound (suc depth) d u = step_sound (read_within g depth) (read_sound depth) d u
