-- Sets of classes, and what follows of the next lexeme.
use Rattle.std.proofs.Common.{◌≡◌, ℕ, Bool, true, false, not, ◌||◌, ◌==◌, List, [], ◌∷◌, ◌++◌, refl, ap, ◌∙◌}
use Rattle.std.proofs.lemmas.Bool.{eqb-true, and_parts, not-true}
use Rattle.grammar.specs.Classes.{is_among, are_apart, are_within, next_class, starts, Fits}
use Rattle.grammar.specs.Description.{Lexeme}

pub or_right : (b : Bool) → (b || true) ≡ true
or_right true = refl
or_right false = refl

pub among_left : (c : ℕ) (xs ys : List ℕ) → is_among c xs ≡ true → is_among c (xs ++ ys) ≡ true
among_left c [] ys h = cc
among_left c (x ∷ xs) ys h = by (c == x) h (among_left c xs ys)
  where
    by : (b : Bool) → (b || is_among c xs) ≡ true → (is_among c xs ≡ true → is_among c (xs ++ ys) ≡ true) → (b || is_among c (xs ++ ys)) ≡ true
    by true e k = refl
    by false e k = k e

pub among_right : (c : ℕ) (xs ys : List ℕ) → is_among c ys ≡ true → is_among c (xs ++ ys) ≡ true
among_right c [] ys h = h
among_right c (x ∷ xs) ys h = ap (λ b. (c == x) || b) (among_right c xs ys h) ∙ or_right (c == x)

apart : (c : ℕ) (xs ys : List ℕ) → are_apart xs ys ≡ true → is_among c ys ≡ true → is_among c xs ≡ false
apart c [] ys d h = refl
apart c (x ∷ xs) ys d h = by (c == x) refl (λ e. apart c xs ys e h)
  where
    parts : (not (is_among x ys) ≡ true) × (are_apart xs ys ≡ true)
    parts = and_parts (not (is_among x ys)) (are_apart xs ys) d

    by : (b : Bool) → (c == x) ≡ b → (are_apart xs ys ≡ true → is_among c xs ≡ false) → (b || is_among c xs) ≡ false
    by true e k = let same : c ≡ x = eqb-true c x e in let no : is_among x ys ≡ false = not-true (is_among x ys) parts.0 in cc
    by false e k = k parts.1

pub within : (c : ℕ) (xs ys : List ℕ) → are_within xs ys ≡ true → is_among c xs ≡ true → is_among c ys ≡ true
within c [] ys s h = cc
within c (x ∷ xs) ys s h = by (c == x) refl h (within c xs ys)
  where
    parts : (is_among x ys ≡ true) × (are_within xs ys ≡ true)
    parts = and_parts (is_among x ys) (are_within xs ys) s

    by : (b : Bool) → (c == x) ≡ b → (b || is_among c xs) ≡ true → (are_within xs ys ≡ true → is_among c xs ≡ true → is_among c ys ≡ true) → is_among c ys ≡ true
    by true e k again = let same : c ≡ x = eqb-true c x e in let yes : is_among x ys ≡ true = parts.0 in cc
    by false e k again = again parts.1 k

pub fits_within : (xs ys : List ℕ) (u : List Lexeme) → are_within xs ys ≡ true → Fits xs u → Fits ys u
fits_within xs ys [] s h = tt
fits_within xs ys (x ∷ u) s h = within x.0 xs ys s h

pub fits_right : (xs ys : List ℕ) (u : List Lexeme) → Fits ys u → Fits (xs ++ ys) u
fits_right xs ys [] h = tt
fits_right xs ys (x ∷ u) h = among_right x.0 xs ys h

pub fits_start : (xs ys : List ℕ) (u : List Lexeme) → starts xs u ≡ true → Fits (xs ++ ys) u
fits_start xs ys [] h = tt
fits_start xs ys (x ∷ u) h = among_left x.0 xs ys h

pub no_start : (xs ys : List ℕ) (u : List Lexeme) → are_apart xs ys ≡ true → Fits ys u → starts xs u ≡ false
no_start xs ys [] d h = refl
no_start xs ys (x ∷ u) d h = apart x.0 xs ys d h

pub next-append : (p u v : List Lexeme) → next_class u ≡ next_class v → next_class (p ++ u) ≡ next_class (p ++ v)
next-append [] u v e = e
next-append (x ∷ p) u v e = refl
