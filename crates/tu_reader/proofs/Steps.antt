-- What is read in steps, for a search backwards.
use Rattle.std.proofs.Common.{◌≡◌, ℕ, Bool, true, false, ◌||◌, ◌==◌, cond, List, [], ◌∷◌, ◌++◌, Result, refl, sym, ◌∙◌, ap, subst}
use Rattle.std.specs.Result.{MatchResult, IsErrAnd}
use Rattle.std.proofs.lemmas.Result.{err_from_is_err_and}
use Rattle.grammar.specs.Classes.{is_among, are_apart, starts, Fits}
use Rattle.grammar.specs.Description.{Lexeme, Description, Derivation, d-empty, d-right, empty, sequence, choice, repetition, rule}
use Rattle.grammar.specs.Grammar.{Marking, nullable, first, numbered, placed}
use Rattle.grammar.specs.Placed.{Input, Stands, mark_at, inside}
use Rattle.grammar.specs.Reading.{Outcome, found, fault, unfinished, read}
use Rattle.grammar.specs.Tree.{Mark, n-empty, n-sequence, n-left, n-right, n-rule, erase, repeated}
use Rattle.grammar.proofs.Chains.{Chain, chain_start, chain_more, chain_fault, chain_end}
use Rattle.grammar.proofs.Sets.{no_start, among_left}
use Rattle.grammar.proofs.Standing.{sequence_stands, left_stands, right_stands, none_stands, turn_stands, rule_stands}
use Rattle.grammar.proofs.Steps.{sequence_found, sequence_fault, sequence_fault_behind, left_found, left_fault, right_found, right_fault, rule_found, rule_fault, read_empty}
use Rattle.tu_token.proofs.Decides.{decides}
use Rattle.tu_token.specs.ClassNumbers.{lexemes}
use Rattle.tu_token.specs.Rules.{Rule, body}
use Rattle.tu_token.specs.Table.{table}
use Rattle.tu_expr.specs.Parts.{Part}
use Rattle.tu_reader.specs.Ahead.{Ahead, input}
use Rattle.tu_reader.specs.Reads.{Takes, Stops, Starts, Begins, Marks, IsSpot}
use Rattle.tu_reader.specs.declared.stop.Stop.{Stop}
use Rattle.tu_reader.specs.declared.stop.Stop.TheVariants.{Unexpected, Memory}
use Rattle.tu_reader.proofs.Beginnings.{starts_found, goes_on_starts, stops_at_once}

fits : (classes : List ℕ) (u : List Lexeme) → starts classes u ≡ true → Fits classes u
fits classes [] e = tt
fits classes (x ∷ u) e = e

infixr 5 ◌▸◌
infixr 5 ◌▹◌
-- one part and then another
pub ◌▸◌ : {a b : Description Rule} {i j k : Ahead} {x : Part a} {y : Part b} → Takes a i x j → Takes b j y k → Takes (sequence a b) i (n-sequence x y) k
◌▸◌ {a = a} {b = b} {i = i} {j = j} {k = k} {x = x} {y = y} p q = record {
  is_read = sequence_found table decides a b (lexemes i.tokens) (lexemes j.tokens) (lexemes k.tokens) (erase x) (erase y) p.is_read q.is_read;
  stands = sequence_stands table a b (input i) (input j) (input k) x y p.stands q.stands;
}

-- one part and then a fault
pub ◌▹◌ : {a b : Description Rule} {i j s : Ahead} {x : Part a} {e : Stop} → Takes a i x j → Stops b j e s → Stops (sequence a b) i e s
◌▹◌ {a = a} {b = b} {i = i} {j = j} {s = s} {x = x} q p = record { is_fault = λ h. sequence_fault_behind table decides a b (lexemes i.tokens) (lexemes j.tokens) (lexemes s.tokens) (erase x) q.is_read (p.is_fault h) }

-- a fault in the part that comes first
pub first_stops : {a b : Description Rule} {i s : Ahead} {e : Stop} → Stops a i e s → Stops (sequence a b) i e s
first_stops {a = a} {b = b} {i = i} {s = s} p = record { is_fault = λ h. sequence_fault table decides a b (lexemes i.tokens) (lexemes s.tokens) (p.is_fault h) }

pub left_takes : {a b : Description Rule} {i j : Ahead} {x : Part a} → nullable table a ≡ false → Takes a i x j → Takes (choice a b) i (n-left x) j
left_takes {a = a} {b = b} {i = i} {j = j} {x = x} n p = record {
  is_read = left_found table decides a b (lexemes i.tokens) (lexemes j.tokens) (erase x) (starts_found a (lexemes i.tokens) (lexemes j.tokens) (erase x) n p.is_read) p.is_read;
  stands = left_stands table a b (input i) (input j) x p.stands;
}

pub right_takes : {a b : Description Rule} {i j : Ahead} {y : Part b} → nullable table b ≡ false → are_apart (first table a) (first table b) ≡ true → Takes b i y j → Takes (choice a b) i (n-right y) j
right_takes {a = a} {b = b} {i = i} {j = j} {y = y} n h p =
    let s = starts_found b (lexemes i.tokens) (lexemes j.tokens) (erase y) n p.is_read in
    record {
      is_read = right_found table decides a b (lexemes i.tokens) (lexemes j.tokens) (erase y) (no_start (first table a) (first table b) (lexemes i.tokens) h (fits (first table b) (lexemes i.tokens) s)) p.is_read;
      stands = right_stands table a b (input i) (input j) y p.stands;
    }

pub none_takes : {a : Description Rule} {i j : Ahead} → Begins a i false → Takes empty i n-empty j → Takes (choice a empty) i (n-right n-empty) j
none_takes {a = a} {i = i} {j = j} s p = record {
  is_read = right_found table decides a empty (lexemes i.tokens) (lexemes j.tokens) d-empty s.is p.is_read;
  stands = right_stands table a empty (input i) (input j) n-empty p.stands;
}

pub left_stops : {a b : Description Rule} {i s : Ahead} {e : Stop} → Begins a i true → Stops a i e s → Stops (choice a b) i e s
left_stops {a = a} {b = b} {i = i} {s = s} h p = record { is_fault = λ k. left_fault table decides a b (lexemes i.tokens) (lexemes s.tokens) h.is (p.is_fault k) }

pub right_stops : {a b : Description Rule} {i s : Ahead} {e : Stop} → Begins a i false → Stops b i e s → Stops (choice a b) i e s
right_stops {a = a} {b = b} {i = i} {s = s} h p = record { is_fault = λ k. right_fault table decides a b (lexemes i.tokens) (lexemes s.tokens) h.is (p.is_fault k) }

-- nothing that can begin it comes next
pub none_stops : {d : Description Rule} {i : Ahead} → nullable table d ≡ false → Begins d i false → Stops d i Unexpected i
none_stops {d = d} {i = i} n h = record { is_fault = λ e. stops_at_once d (lexemes i.tokens) n h.is }

marked_rule : (n : Rule) (i k j : Ahead) (m : Mark) (x : Part (body n)) (z : Marking) → table.marking n ≡ z → m ≡ mark_at z (input i) → lexemes k.tokens ≡ lexemes i.tokens → input k ≡ inside z (input i) → Takes (body n) k x j → Takes (rule n) i (n-rule m x) j
marked_rule n i k j m x z n_is m_is same k_is p =
    let S : Input → Type 0 = λ w. Stands table w x (input j) in
    record {
      is_read = rule_found table decides n (lexemes i.tokens) (lexemes j.tokens) (erase x) (ap (λ u. read table (body n) u) (sym same) ∙ p.is_read);
      stands = rule_stands table n (input i) (input j) m x (m_is ∙ ap (λ g. mark_at g (input i)) (sym n_is)) (subst S (k_is ∙ ap (λ g. inside g (input i)) (sym n_is)) p.stands);
    }

-- a rule with a number
pub rule_takes : {n : Rule} {i k j : Ahead} {m : Mark} {x : Part (body n)} → table.marking n ≡ numbered → Marks m i k → Takes (body n) k x j → Takes (rule n) i (n-rule m x) j
rule_takes {n = n} {i = i} {k = k} {j = j} {m = m} {x = x} n_is w p = marked_rule n i k j m x numbered n_is w.is_mark (ap (λ (z : Ahead). lexemes z.tokens) w.after) (ap (λ (z : Ahead). input z) w.after) p

pub rule_stops : {n : Rule} {i k s : Ahead} {m : Mark} {e : Stop} → Marks m i k → Stops (body n) k e s → Stops (rule n) i e s
rule_stops {n = n} {i = i} {s = s} w p = record { is_fault = λ h. rule_fault table decides n (lexemes i.tokens) (lexemes s.tokens) (ap (λ (z : Ahead). read table (body n) (lexemes z.tokens)) (sym w.after) ∙ p.is_fault h) }

-- a rule without a number
pub spot_takes : {n : Rule} {i j : Ahead} {m : Mark} {x : Part (body n)} → table.marking n ≡ placed → IsSpot m i → Takes (body n) i x j → Takes (rule n) i (n-rule m x) j
spot_takes {n = n} {i = i} {j = j} {m = m} {x = x} n_is w p = marked_rule n i i j m x placed n_is w.is_mark refl refl p

pub spot_stops : {n : Rule} {i s : Ahead} {e : Stop} → Stops (body n) i e s → Stops (rule n) i e s
spot_stops {n = n} {i = i} {s = s} p = record { is_fault = λ h. rule_fault table decides n (lexemes i.tokens) (lexemes s.tokens) (p.is_fault h) }

-- the turns xs of a repetition were read, from i to k
pub record Turns {A : Type 0} (d : Description Rule) (show : A → Part d) (xs : List A) (i k : Ahead) : Type 0 where
  pub chain : Chain table d show xs (lexemes i.tokens) (lexemes k.tokens)
  pub stands : Stands table (input i) (repeated d show xs) (input k)

pub no_turns : {A : Type 0} {d : Description Rule} {show : A → Part d} {xs : List A} {i : Ahead} → xs ≡ [] → Turns d show xs i i
no_turns {A = A} {d = d} {show = show} {i = i} e =
    let T : List A → Type 0 = λ zs. Turns d show zs i i in
    subst T (sym e) (record { chain = chain_start table d show (lexemes i.tokens); stands = none_stands table d (input i) })

-- one more turn
pub turns_more : {A : Type 0} {d : Description Rule} {show : A → Part d} {xs ys : List A} {x : A} {i k : Ahead} → ys ≡ xs ++ x ∷ [] → nullable table d ≡ false → Turns d show xs i k → {j : Ahead} → Takes d k (show x) j → Turns d show ys i j
turns_more {A = A} {d = d} {show = show} {xs = xs} {x = x} {i = i} {k = k} e n c {j = j} p =
    let T : List A → Type 0 = λ zs. Turns d show zs i j in
    subst T (sym e) (record {
      chain = chain_more table decides d show xs (lexemes i.tokens) (lexemes k.tokens) (lexemes j.tokens) x c.chain (goes_on_starts d (lexemes k.tokens) true n (starts_found d (lexemes k.tokens) (lexemes j.tokens) (erase (show x)) n p.is_read)) p.is_read;
      stands = turn_stands table d show xs x (input i) (input k) (input j) c.stands p.stands;
    })

-- a fault in a further turn
pub turns_stop : {A : Type 0} {d : Description Rule} {show : A → Part d} {xs : List A} {i k : Ahead} → nullable table d ≡ false → Turns d show xs i k → Begins d k true → {s : Ahead} {e : Stop} → Stops d k e s → Stops (repetition d) i e s
turns_stop {d = d} {show = show} {xs = xs} {i = i} {k = k} n c h {s = s} p = record { is_fault = λ q. chain_fault table decides d show xs (lexemes i.tokens) (lexemes k.tokens) (lexemes s.tokens) c.chain (goes_on_starts d (lexemes k.tokens) true n h.is) (p.is_fault q) }

nothing_read : (k j : Ahead) → Takes empty k n-empty j → (lexemes k.tokens ≡ lexemes j.tokens) × (input k ≡ input j)
unfolding Stands
nothing_read k j p =
    let same = sym (read_empty table decides (lexemes k.tokens)) ∙ p.is_read in
    let rest : Outcome (Derivation body empty) → List Lexeme = elim [ found x r ↦ r | fault r ↦ r | unfinished ↦ [] ] in
    (ap rest same, ap (λ z. z.1) p.stands)

-- no further turn
pub turns_end : {A : Type 0} {d : Description Rule} {show : A → Part d} {xs : List A} {i k j : Ahead} → nullable table d ≡ false → Turns d show xs i k → Begins d k false → Takes empty k n-empty j → Takes (repetition d) i (repeated d show xs) j
turns_end {d = d} {show = show} {xs = xs} {i = i} {k = k} {j = j} n c h p =
    let same = nothing_read k j p in
    let S : Input → Type 0 = λ w. Stands table (input i) (repeated d show xs) w in
    record {
      is_read = chain_end table decides d show xs (lexemes i.tokens) (lexemes k.tokens) c.chain (goes_on_starts d (lexemes k.tokens) false n h.is) ∙ ap (found (erase (repeated d show xs))) same.0;
      stands = subst S same.1 c.stands;
    }

-- the exit of a `?`
pub exits : {X : Type 0} (P : X → Type 0) (Q : Stop → Type 0) (r : Result X Stop) (e : Stop) → IsErrAnd r (λ y. y ≡ e) → Q e → MatchResult r P Q
exits P Q r e h q = let p = err_from_is_err_and r h in rw (p.1, p.2) q

pub out_of_memory : {d : Description Rule} {i s : Ahead} → Stops d i Memory s
out_of_memory = record { is_fault = λ h. absurd (let k : Memory ≡ Unexpected = h in cc) }

-- what is read behind nothing
pub behind_nothing : {d : Description Rule} {i j k : Ahead} {x : Part d} → Takes empty i n-empty j → Takes d j x k → Takes d i x k
behind_nothing {d = d} {i = i} {j = j} {k = k} {x = x} p q =
    let same = nothing_read i j p in
    let S : Input → Type 0 = λ w. Stands table w x (input k) in
    record { is_read = ap (read table d) same.0 ∙ q.is_read; stands = subst S (sym same.1) q.stands }

pub fault_behind_nothing : {d : Description Rule} {i j s : Ahead} {e : Stop} → Takes empty i n-empty j → Stops d j e s → Stops d i e s
fault_behind_nothing {d = d} {i = i} {j = j} p q = record { is_fault = λ h. ap (read table d) (nothing_read i j p).0 ∙ q.is_fault h }

pub starts_behind_nothing : {classes : List ℕ} {i j : Ahead} {b : Bool} → Takes empty i n-empty j → Starts classes j b → Starts classes i b
starts_behind_nothing {classes = classes} {i = i} {j = j} p s = record { is = ap (starts classes) (nothing_read i j p).0 ∙ s.is }

-- what starts neither the one nor the other
pub starts_neither : {xs ys : List ℕ} {i : Ahead} → Starts xs i false → Starts ys i false → Starts (xs ++ ys) i false
starts_neither {xs = xs} {ys = ys} {i = i} e h = record { is = by (lexemes i.tokens) e.is h.is }
  where
    or_both : (p q r : Bool) → (p || q) ≡ false → (q ≡ false → r ≡ false) → (p || r) ≡ false
    or_both true q r e k = e
    or_both false q r e k = k e

    both : (c : ℕ) (xs ys : List ℕ) → is_among c xs ≡ false → is_among c ys ≡ false → is_among c (xs ++ ys) ≡ false
    both c [] ys e h = h
    both c (x ∷ xs) ys e h = or_both (c == x) (is_among c xs) (is_among c (xs ++ ys)) e (λ k. both c xs ys k h)

    by : (u : List Lexeme) → starts xs u ≡ false → starts ys u ≡ false → starts (xs ++ ys) u ≡ false
    by [] e h = refl
    by (x ∷ u) e h = both x.0 xs ys e h

-- a fault at the same place in another description
abbrev fault_of : (d : Description Rule) → List Lexeme → Outcome (Derivation body d)
fault_of d u = fault u

same_fault : (d k : Description Rule) {u v : List Lexeme} → fault_of d u ≡ fault_of d v → fault_of k u ≡ fault_of k v
same_fault d k e =
    let rest : Outcome (Derivation body d) → List Lexeme = elim [ found x r ↦ r | fault r ↦ r | unfinished ↦ [] ] in
    ap (λ o. fault_of k (rest o)) e

-- nothing that begins the other alternative comes next
pub otherwise_stops : {a b : Description Rule} {i s : Ahead} {e : Stop} → nullable table a ≡ false → nullable table b ≡ false → Begins b i false → Stops a i e s → Stops (choice a b) i e s
otherwise_stops {a = a} {b = b} {i = i} {s = s} {e = e} m n h p = record { is_fault = λ k. by (starts (first table a) (lexemes i.tokens)) refl (p.is_fault k) }
  where
    by : (z : Bool) → starts (first table a) (lexemes i.tokens) ≡ z → read table a (lexemes i.tokens) ≡ fault (lexemes s.tokens) → read table (choice a b) (lexemes i.tokens) ≡ fault (lexemes s.tokens)
    by true q f = left_fault table decides a b (lexemes i.tokens) (lexemes s.tokens) q f
    by false q f = right_fault table decides a b (lexemes i.tokens) (lexemes i.tokens) q (stops_at_once b (lexemes i.tokens) n h.is) ∙ same_fault a (choice a b) (sym (stops_at_once a (lexemes i.tokens) m q) ∙ f)

-- an optional part, behind which something else must come
pub optional_stops : {a b : Description Rule} {i s : Ahead} {e : Stop} → nullable table a ≡ false → nullable table b ≡ false → Begins b i false → Stops a i e s → Stops (sequence (choice a empty) b) i e s
optional_stops {a = a} {b = b} {i = i} {s = s} {e = e} m n h p = record { is_fault = λ k. by (starts (first table a) (lexemes i.tokens)) refl (p.is_fault k) }
  where
    by : (z : Bool) → starts (first table a) (lexemes i.tokens) ≡ z → read table a (lexemes i.tokens) ≡ fault (lexemes s.tokens) → read table (sequence (choice a empty) b) (lexemes i.tokens) ≡ fault (lexemes s.tokens)
    by true q f = sequence_fault table decides (choice a empty) b (lexemes i.tokens) (lexemes s.tokens) (left_fault table decides a empty (lexemes i.tokens) (lexemes s.tokens) q f)
    by false q f =
        sequence_fault_behind table decides (choice a empty) b (lexemes i.tokens) (lexemes i.tokens) (lexemes i.tokens) (d-right d-empty) (right_found table decides a empty (lexemes i.tokens) (lexemes i.tokens) d-empty q (read_empty table decides (lexemes i.tokens))) (stops_at_once b (lexemes i.tokens) n h.is)
        ∙ same_fault a (sequence (choice a empty) b) (sym (stops_at_once a (lexemes i.tokens) m q) ∙ f)

-- what was read begins with the next token
pub starts_taken : {d : Description Rule} {i j : Ahead} {x : Part d} → nullable table d ≡ false → Takes d i x j → Begins d i true
starts_taken {d = d} {i = i} {j = j} {x = x} n p = record { is = starts_found d (lexemes i.tokens) (lexemes j.tokens) (erase x) n p.is_read }

pub sequence_begins : (a b : Description Rule) {i : Ahead} → Begins a i true → Begins (sequence a b) i true
sequence_begins a b {i = i} s = record { is = by (lexemes i.tokens) s.is }
  where
    by : (u : List Lexeme) → starts (first table a) u ≡ true → starts (first table (sequence a b)) u ≡ true
    by [] e = e
    by (x ∷ u) e = among_left x.0 (first table a) (cond (nullable table a) (first table b) []) e
