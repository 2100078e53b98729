-- A choice by the class of the next token.
use Rattle.std.proofs.Common.{◌≡◌, ℕ, Bool, true, false, ◌||◌, cond, List, [], ◌∷◌, Some, None, map, refl, sym, ◌∙◌, ap}
use Rattle.std.proofs.lemmas.Bool.{ne_eqb, eqb-true}
use Rattle.grammar.specs.Classes.{is_among, starts}
use Rattle.grammar.specs.Description.{Description, token, empty, sequence, choice, repetition, rule, span}
use Rattle.grammar.specs.Grammar.{nullable, first}
use Rattle.grammar.specs.Tree.{n-left, n-right, erase}
use Rattle.grammar.proofs.Standing.{left_stands, right_stands}
use Rattle.grammar.proofs.Steps.{left_found, right_found}
use Rattle.tu_token.proofs.Decides.{decides}
use Rattle.tu_token.proofs.Numbers.{same_class}
use Rattle.tu_token.specs.declared.class.Class.{Class}
use Rattle.tu_token.specs.declared.token.Token.{Token}
use Rattle.tu_token.specs.ClassNumbers.{number, lexemes}
use Rattle.tu_token.specs.Rules.{Rule}
use Rattle.tu_token.specs.Table.{table}
use Rattle.tu_expr.specs.Parts.{Part}
use Rattle.tu_reader.specs.Ahead.{IsNone, Ahead, input, class_of}
use Rattle.tu_reader.specs.Reads.{Takes, Stops, Starts, Sees, Begins}
use Rattle.tu_reader.specs.declared.stop.Stop.{Stop}
use Rattle.tu_reader.specs.declared.stop.Stop.TheVariants.{Unexpected}
use Rattle.tu_reader.proofs.Steps.{none_stops, left_stops, right_stops}

-- the alternative that begins with a class, else the last
abbrev pub chosen : Description Rule → ℕ → Description Rule
chosen (choice a b) c = cond (is_among c (first table a)) a (chosen b c)
chosen d c = d

abbrev pub picked : {a b o : Description Rule} (z : Bool) → (Part o → Part b) → Part (cond z a o) → Part (choice a b)
picked true other x = n-left x
picked false other x = n-right (other x)

-- it, as one of the choice
abbrev pub as_choice : (d : Description Rule) (c : ℕ) → Part (chosen d c) → Part d
as_choice (token k) c x = x
as_choice empty c x = x
as_choice (sequence a b) c x = x
as_choice (repetition a) c x = x
as_choice (rule n) c x = x
as_choice (span long short b) c x = x
as_choice (choice a b) c x = picked (is_among c (first table a)) (as_choice b c) x

-- the next token is of a class
pub record IsAt (k : Class) (i : Ahead) : Type 0 where
  pub class_is : Some k ≡ class_of i.tokens

pub is_at : {k c : Class} {i : Ahead} → Some c ≡ class_of i.tokens → c ≡ k → IsAt k i
is_at e h = record { class_is = ap Some (sym h) ∙ e }

pub seen_at : {k : Class} {i : Ahead} → Sees k i true → IsAt k i
seen_at {k = k} {i = i} s = record { class_is = by i.tokens s.is }
  where
    by : (tokens : List Token) → starts (number k ∷ []) (lexemes tokens) ≡ true → Some k ≡ class_of tokens
    by [] s = cc
    by (x ∷ xs) s = ap Some (sym (same_class x.class k (eqb-true (number x.class) (number k) (only s))))
      where
        only : {z : Bool} → (z || false) ≡ true → z ≡ true
        only {z = true} s = refl
        only {z = false} s = s

pub begins_at : {k : Class} {i : Ahead} → IsAt k i → (classes : List ℕ) → Starts classes i (is_among (number k) classes)
begins_at {k = k} {i = i} a classes = record { is = by i.tokens a.class_is }
  where
    by : (tokens : List Token) → Some k ≡ class_of tokens → starts classes (lexemes tokens) ≡ is_among (number k) classes
    by [] e = cc
    by (x ∷ xs) e = let same : k ≡ x.class = cc in ap (λ z. is_among (number z) classes) (sym same)

picked_takes : {a b o : Description Rule} {i j : Ahead} (other : Part o → Part b) (z : Bool) → Begins a i z → (x : Part (cond z a o)) → Takes (cond z a o) i x j → ((y : Part o) → Takes o i y j → Takes b i (other y) j)
    → Takes (choice a b) i (picked z other x) j
picked_takes {a = a} {b = b} {i = i} {j = j} other true e x p h = record {
  is_read = left_found table decides a b (lexemes i.tokens) (lexemes j.tokens) (erase x) e.is p.is_read;
  stands = left_stands table a b (input i) (input j) x p.stands;
}
picked_takes {a = a} {b = b} {i = i} {j = j} other false e x p h =
    let q = h x p in
    record {
      is_read = right_found table decides a b (lexemes i.tokens) (lexemes j.tokens) (erase (other x)) e.is q.is_read;
      stands = right_stands table a b (input i) (input j) (other x) q.stands;
    }

-- the alternative that begins here was read
pub choice_takes : {k : Class} {i j : Ahead} → IsAt k i → (d : Description Rule) (x : Part (chosen d (number k))) → Takes (chosen d (number k)) i x j → Takes d i (as_choice d (number k) x) j
choice_takes at (token c) x p = p
choice_takes at empty x p = p
choice_takes at (sequence a b) x p = p
choice_takes at (repetition a) x p = p
choice_takes at (rule n) x p = p
choice_takes at (span long short b) x p = p
choice_takes {k = k} at (choice a b) x p = picked_takes (as_choice b (number k)) (is_among (number k) (first table a)) (begins_at at (first table a)) x p (choice_takes at b)

picked_stops : {a b o : Description Rule} {i s : Ahead} {e : Stop} (z : Bool) → Begins a i z → Stops (cond z a o) i e s → (Stops o i e s → Stops b i e s) → Stops (choice a b) i e s
picked_stops true h p k = left_stops h p
picked_stops false h p k = right_stops h (k p)

-- the alternative that begins here has a fault
pub choice_stops : {k : Class} {i s : Ahead} {e : Stop} → IsAt k i → (d : Description Rule) → Stops (chosen d (number k)) i e s → Stops d i e s
choice_stops at (token c) p = p
choice_stops at empty p = p
choice_stops at (sequence a b) p = p
choice_stops at (repetition a) p = p
choice_stops at (rule n) p = p
choice_stops at (span long short b) p = p
choice_stops {k = k} at (choice a b) p = picked_stops (is_among (number k) (first table a)) (begins_at at (first table a)) p (choice_stops at b)

not_among : (c : Class) (classes : List Class) → IsNone c classes → is_among (number c) (map number classes) ≡ false
not_among c [] h = refl
not_among c (k ∷ classes) h = ap (λ z. z || is_among (number c) (map number classes)) (ne_eqb (number c) (number k) (λ e. h.0 (same_class c k e))) ∙ not_among c classes h.1

-- no alternative begins here
pub other_stops : {d : Description Rule} {c : Class} {i : Ahead} (classes : List Class) → nullable table d ≡ false → first table d ≡ map number classes → Some c ≡ class_of i.tokens → IsNone c classes → Stops d i Unexpected i
other_stops {d = d} {c = c} {i = i} classes n f e h = none_stops n (record { is = (begins_at (is_at {i = i} e refl) (first table d)).is ∙ ap (is_among (number c)) f ∙ not_among c classes h })

pub end_stops : {d : Description Rule} {i : Ahead} → nullable table d ≡ false → None ≡ class_of i.tokens → Stops d i Unexpected i
end_stops {d = d} {i = i} n e = none_stops n (record { is = by i.tokens e })
  where
    by : (tokens : List Token) → None ≡ class_of tokens → starts (first table d) (lexemes tokens) ≡ false
    by [] e = refl
    by (x ∷ xs) e = cc

pub none_starts : {i : Ahead} → None ≡ class_of i.tokens → (classes : List ℕ) → Starts classes i false
none_starts {i = i} e classes = record { is = by i.tokens e }
  where
    by : (tokens : List Token) → None ≡ class_of tokens → starts classes (lexemes tokens) ≡ false
    by [] e = refl
    by (x ∷ xs) e = cc

-- a test of the class decides
pub some_starts : {classes : List ℕ} {i : Ahead} {c : Class} {b : Bool} (test : Class → Bool) → ((k : Class) → test k ≡ is_among (number k) classes) → Some c ≡ class_of i.tokens → b ≡ test c → Starts classes i b
some_starts {classes = classes} {i = i} {c = c} test h e k = record { is = (begins_at (is_at {i = i} e refl) classes).is ∙ sym (h c) ∙ sym k }

pub others_start : {c : Class} {i : Ahead} → Some c ≡ class_of i.tokens → (classes : List Class) → IsNone c classes → Starts (map number classes) i false
others_start {c = c} {i = i} e classes h = record { is = (begins_at (is_at {i = i} e refl) (map number classes)).is ∙ not_among c classes h }
