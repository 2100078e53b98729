-- A class in a table of spellings.
use Rattle.std.specs.Prelude.{◌≡◌, ℕ, ◌+◌, ◌<◌, ◌==◌, Bool, true, false, List, length, map, drop, cond, refl}
use Rattle.std.proofs.Common.{sym, ap, ◌∙◌, get_or, rules}
use Rattle.std.proofs.lemmas.Bool.{eq-eqb, ne_eqb}
use Rattle.std.proofs.lemmas.List.{drop_more}
use denote.Enum.Bare.{sameb, same_true, same_false}
use Rattle.tu_token.specs.contracts.class.Class.{the_type}
use Rattle.tu_token.specs.declared.class.Class.{Class}
use Rattle.tu_token.specs.ClassNumbers.{number}
use Rattle.tu_token.proofs.Numbers.{same_class}
use Rattle.tu_token.specs.Spellings.{spelled_in}

-- whether two classes are the same, by number
same_number : (a b : Class) → sameb the_type a b ≡ (number a == number b)
same_number a b = by (sameb the_type a b) refl
  where
    by : (z : Bool) → sameb the_type a b ≡ z → z ≡ (number a == number b)
    by true e = sym (eq-eqb (number a) (number b) (ap number (same_true the_type (search rules) a b e)))
    by false e = sym (ne_eqb (number a) (number b) (λ h. same_false the_type a b e (same_class a b h)))

step : {A : Type 0} (f : A → List ℕ × Class) (table : List A) (k : ℕ) (d : A) (c : Class) (b : Bool) → k < length table → sameb the_type (f (get_or table k d)).1 c ≡ b
    → spelled_in (map f (drop k table)) (number c) ≡ cond b (f (get_or table k d)).0 (spelled_in (map f (drop (k + 1) table)) (number c))
step f table k d c b lt e =
    let x = f (get_or table k d) in
    let rest = spelled_in (map f (drop (k + 1) table)) (number c) in
    ap (λ z. spelled_in (map f z) (number c)) (drop_more table k d lt) ∙ ap (λ z. cond z x.0 rest) (sym (same_number x.1 c) ∙ e)

pub at_entry : {A : Type 0} (f : A → List ℕ × Class) (table : List A) (k : ℕ) (d : A) (c : Class) (whole : List ℕ) → k < length table → sameb the_type (f (get_or table k d)).1 c ≡ true
    → spelled_in (map f (drop k table)) (number c) ≡ whole → (f (get_or table k d)).0 ≡ whole
at_entry f table k d c whole lt e w = sym (step f table k d c true lt e) ∙ w

pub past_entry : {A : Type 0} (f : A → List ℕ × Class) (table : List A) (k : ℕ) (d : A) (c : Class) (whole : List ℕ) → k < length table → sameb the_type (f (get_or table k d)).1 c ≡ false
    → spelled_in (map f (drop k table)) (number c) ≡ whole → spelled_in (map f (drop (k + 1) table)) (number c) ≡ whole
past_entry f table k d c whole lt e w = sym (step f table k d c false lt e) ∙ w
