-- The name that an expression is stands where the expression does.
use Rattle.std.proofs.Common.{◌≡◌, ℕ, ◌+◌, ◌≤◌, false, List, [], ◌∷◌, Option, Some, None, length, refl, sym, ◌∙◌, ap, subst, arith}
use Rattle.grammar.specs.Description.{Description, token, empty, sequence, choice, repetition, rule}
use Rattle.grammar.specs.Grammar.{nullable, numbered}
use Rattle.grammar.specs.Placed.{Input, Stands, marked, mark_at, inside}
use Rattle.grammar.specs.Tree.{Mark, n-token, n-text, n-empty, n-sequence, n-left, n-right, n-none, n-more, n-rule, erase}
use Rattle.grammar.proofs.Beginning.{takes_some}
use Rattle.grammar.proofs.Places.{is_spelled}
use Rattle.grammar.proofs.Standing.{sequence_stands, left_stands, right_stands, empty_stands, rule_stands}
use Rattle.tu_token.proofs.Decides.{decides}
use Rattle.tu_token.specs.declared.class.Class.TheVariants.{Name, SignDot}
use Rattle.tu_token.specs.declared.token.Token.{Token}
use Rattle.tu_token.specs.ClassNumbers.{lexemes}
use Rattle.tu_token.specs.Rules.{Rule, ◌⨟◌, t, maybe, r-expr, r-or, r-and, r-not, r-compare, r-sum, r-term, r-prefix, r-power, r-primary, r-path, r-name, body}
use Rattle.tu_token.specs.Syntax.{Of}
use Rattle.tu_token.specs.Table.{table}
use Rattle.tu_expr.specs.Parts.{Part, mark_of}
use Rattle.tu_reader.specs.Ahead.{Ahead, input}
use Rattle.tu_reader.specs.Reads.{Takes}
use Rattle.tu_types_reader.specs.Shortened.{alone, expr_path, or_path, and_path, not_path, compare_path, sum_path, term_path, prefix_path, power_path, primary_path, named, name_of}

none : {A : Type 0} {P : Type 0} {x : A} → None ≡ Some x → P
none e = absurd (cc)

the : {A : Type 0} {x y : A} → Some x ≡ Some y → x ≡ y
the e = cc

-- a tree of the rule's description
inner : {n : Rule} → Of n → Part (body n)
inner (n-rule m x) = x

before_end : {a b : Description Rule} → Part (sequence a b) → Part a
before_end (n-sequence x y) = x

behind_start : {a b : Description Rule} → Part (sequence a b) → Part b
behind_start (n-sequence x y) = y

-- a tree stands between two places
pub record Standing {d : Description Rule} (i : Input) (x : Part d) (j : Input) : Type 0 where
  pub stands : Stands table i x j

-- the place between two parts
pub record Parted {a b : Description Rule} (x : Part a) (y : Part b) (i j : Input) : Type 0 where
  pub between : Input
  pub before : Standing i x between
  pub behind : Standing between y j

inside_stands : (n : Rule) {m : Mark} {x : Part (body n)} {i j : Input} → Standing i (n-rule {n = n} m x) j → Standing (inside (table.marking n) i) x j
unfolding Stands inner
inside_stands n h = record { stands = ap (λ z. (inner z.0, z.1)) h.stands }

pub parts_stand : {a b : Description Rule} {x : Part a} {y : Part b} {i j : Input} → Standing i (n-sequence x y) j → Parted x y i j
unfolding Stands before_end behind_start
parts_stand {x = x} {y = y} {i = i} {j = j} h =
    let k = (marked table (erase x) i).1 in
    record {
      between = k;
      before = record { stands = ap (λ z. (before_end z.0, k)) h.stands };
      behind = record { stands = ap (λ z. (behind_start z.0, z.1)) h.stands };
    }

chosen_left : {a b : Description Rule} → Part a → Part (choice a b) → Part a
chosen_left d (n-left x) = x
chosen_left d (n-right y) = d

chosen_right : {a b : Description Rule} → Part b → Part (choice a b) → Part b
chosen_right d (n-left x) = d
chosen_right d (n-right y) = y

left_inside : {a b : Description Rule} {x : Part a} {i j : Input} → Standing i (n-left {b = b} x) j → Standing i x j
unfolding Stands chosen_left
left_inside {x = x} h = record { stands = ap (λ z. (chosen_left x z.0, z.1)) h.stands }

right_inside : {a b : Description Rule} {y : Part b} {i j : Input} → Standing i (n-right {a = a} y) j → Standing i y j
unfolding Stands chosen_right
right_inside {y = y} h = record { stands = ap (λ z. (chosen_right y z.0, z.1)) h.stands }

first_turn : {d : Description Rule} → Part d → Part (repetition d) → Part d
first_turn y n-none = y
first_turn y (n-more x xs) = x

other_turns : {d : Description Rule} → Part (repetition d) → Part (repetition d)
other_turns n-none = n-none
other_turns (n-more x xs) = xs

turns_stand : {d : Description Rule} {x : Part d} {xs : Part (repetition d)} {i j : Input} → Standing i (n-more x xs) j → Parted x xs i j
unfolding Stands first_turn other_turns
turns_stand {x = x} {i = i} h =
    let k = (marked table (erase x) i).1 in
    record {
      between = k;
      before = record { stands = ap (λ z. (first_turn x z.0, k)) h.stands };
      behind = record { stands = ap (λ z. (other_turns z.0, z.1)) h.stands };
    }

no_turn_stands : {d : Description Rule} {i j : Input} → Standing i (n-none {a = d}) j → i ≡ j
unfolding Stands
no_turn_stands h = ap (λ z. z.1) h.stands

-- a token stands with any number before it
token_moved : {c : ℕ} (x : Part (token c)) {i j : Input} (number : ℕ) → Standing i x j → Stands table (record i { number = number }) x (record j { number = number })
unfolding Stands
token_moved n-token number h = ap (λ z. (z.0, record z.1 { number = number })) h.stands
token_moved (n-text text start line) number h = ap (λ z. (z.0, record z.1 { number = number })) h.stands

-- what stands alone is all that stands there
first_alone : {A : Type 0} {a d : Description Rule} {x : Part a} {p : A} {i j : Input} (turns : Part (repetition d)) (o : Option A) → Standing i (n-sequence x turns) j → alone turns o ≡ Some p → Standing i x j × (o ≡ Some p)
first_alone n-none None h e = none e
first_alone {x = x} {i = i} n-none (Some y) h e =
    let q = parts_stand h in
    let S : Input → Type 0 = λ k. Standing i x k in
    (subst S (no_turn_stands q.behind) q.before, e)
first_alone (n-more y turns) None h e = none e
first_alone (n-more y turns) (Some z) h e = none e

last_alone : {A : Type 0} {a d : Description Rule} {x : Part a} {p : A} {i j : Input} (turns : Part (repetition d)) (o : Option A) → Standing i (n-sequence turns x) j → alone turns o ≡ Some p → Standing i x j × (o ≡ Some p)
last_alone n-none None h e = none e
last_alone {x = x} {j = j} n-none (Some y) h e =
    let q = parts_stand h in
    let S : Input → Type 0 = λ k. Standing k x j in
    (subst S (sym (no_turn_stands q.before)) q.behind, e)
last_alone (n-more y turns) None h e = none e
last_alone (n-more y turns) (Some z) h e = none e

-- the path stands there, with a number further on
record PathAt (p : Of r-path) (i j : Input) : Type 0 where
  number : ℕ
  stands : Standing (record i { number = number }) p j

further : {p : Of r-path} {i j : Input} → PathAt p (inside numbered i) j → PathAt p i j
further w = record { number = w.number; stands = w.stands }

primary_at : (x : Of r-primary) (i j : Input) (p : Of r-path) → Standing i x j → primary_path x ≡ Some p → PathAt p i j
primary_at (n-rule m (n-right (n-right (n-right (n-left path))))) i j p h e =
    let S : Of r-path → Type 0 = λ z. Standing (inside numbered i) z j in
    record { number = i.number + 1; stands = subst S (the e) (left_inside (right_inside (right_inside (right_inside (inside_stands r-primary h))))) }
primary_at (n-rule m (n-left x)) i j p h e = none e
primary_at (n-rule m (n-right (n-left x))) i j p h e = none e
primary_at (n-rule m (n-right (n-right (n-left x)))) i j p h e = none e
primary_at (n-rule m (n-right (n-right (n-right (n-right x))))) i j p h e = none e

power_at : (x : Of r-power) (i j : Input) (p : Of r-path) → Standing i x j → power_path x ≡ Some p → PathAt p i j
power_at (n-rule m (n-sequence x more)) i j p h e = let q = first_alone more (primary_path x) (inside_stands r-power h) e in further (primary_at x (inside numbered i) j p q.0 q.1)

prefix_at : (x : Of r-prefix) (i j : Input) (p : Of r-path) → Standing i x j → prefix_path x ≡ Some p → PathAt p i j
prefix_at (n-rule m (n-sequence turns x)) i j p h e = let q = last_alone turns (power_path x) (inside_stands r-prefix h) e in further (power_at x (inside numbered i) j p q.0 q.1)

term_at : (x : Of r-term) (i j : Input) (p : Of r-path) → Standing i x j → term_path x ≡ Some p → PathAt p i j
term_at (n-rule m (n-sequence x more)) i j p h e = let q = first_alone more (prefix_path x) (inside_stands r-term h) e in further (prefix_at x (inside numbered i) j p q.0 q.1)

sum_at : (x : Of r-sum) (i j : Input) (p : Of r-path) → Standing i x j → sum_path x ≡ Some p → PathAt p i j
sum_at (n-rule m (n-sequence x more)) i j p h e = let q = first_alone more (term_path x) (inside_stands r-sum h) e in further (term_at x (inside numbered i) j p q.0 q.1)

compare_at : (x : Of r-compare) (i j : Input) (p : Of r-path) → Standing i x j → compare_path x ≡ Some p → PathAt p i j
compare_at (n-rule m (n-sequence x more)) i j p h e = let q = first_alone more (sum_path x) (inside_stands r-compare h) e in further (sum_at x (inside numbered i) j p q.0 q.1)

not_at : (x : Of r-not) (i j : Input) (p : Of r-path) → Standing i x j → not_path x ≡ Some p → PathAt p i j
not_at (n-rule m (n-sequence turns x)) i j p h e = let q = last_alone turns (compare_path x) (inside_stands r-not h) e in further (compare_at x (inside numbered i) j p q.0 q.1)

and_at : (x : Of r-and) (i j : Input) (p : Of r-path) → Standing i x j → and_path x ≡ Some p → PathAt p i j
and_at (n-rule m (n-sequence x more)) i j p h e = let q = first_alone more (not_path x) (inside_stands r-and h) e in further (not_at x (inside numbered i) j p q.0 q.1)

or_at : (x : Of r-or) (i j : Input) (p : Of r-path) → Standing i x j → or_path x ≡ Some p → PathAt p i j
or_at (n-rule m (n-sequence x more)) i j p h e = let q = first_alone more (and_path x) (inside_stands r-or h) e in further (and_at x (inside numbered i) j p q.0 q.1)

expr_at : (x : Of r-expr) (i j : Input) (p : Of r-path) → Standing i x j → expr_path x ≡ Some p → PathAt p i j
expr_at (n-rule m (n-sequence x more)) i j p h e = let q = first_alone more (or_path x) (inside_stands r-expr h) e in further (or_at x (inside numbered i) j p q.0 q.1)

abbrev member : Description Rule
member = t SignDot ⨟ t Name

-- a name stands where the path does, with a number of its own
named_at : (m : Mark) (p : Of r-path) (i j : Input) (k : ℕ) (z : Of r-name) → m ≡ mark_at numbered i → Standing (record i { number = k }) p j → named m (Some p) ≡ Some z → Stands table i z (record j { number = i.number + 1 })
named_at m (n-rule g (n-sequence first n-none)) i j k z w h e =
    let q = parts_stand (inside_stands r-path h) in
    let up : Input → Input = λ y. record y { number = i.number + 1 } in
    let rest = right_stands table member empty (up q.between) (up q.between) n-empty (empty_stands table (up q.between)) in
    let parts = sequence_stands table (t Name) (maybe member) (up i) (up q.between) (up q.between) first (n-right n-empty) (token_moved first (i.number + 1) q.before) rest in
    let whole = rule_stands table r-name i (up q.between) m (n-sequence first (n-right n-empty)) w parts in
    let J : Input → Type 0 = λ y. Stands table i (n-rule {n = r-name} m (n-sequence first (n-right n-empty))) (up y) in
    let Z : Of r-name → Type 0 = λ y. Stands table i y (up j) in
    subst Z (the e) (subst J (no_turn_stands q.behind) whole)
named_at m (n-rule g (n-sequence first (n-more (n-left (n-sequence dot second)) n-none))) i j k z w h e =
    let q = parts_stand (inside_stands r-path h) in
    let r = turns_stand q.behind in
    let s = parts_stand (left_inside r.before) in
    let up : Input → Input = λ y. record y { number = i.number + 1 } in
    let both = sequence_stands table (t SignDot) (t Name) (up q.between) (up s.between) (up r.between) dot second (token_moved dot (i.number + 1) s.before) (token_moved second (i.number + 1) s.behind) in
    let rest = left_stands table member empty (up q.between) (up r.between) (n-sequence dot second) both in
    let parts = sequence_stands table (t Name) (maybe member) (up i) (up q.between) (up r.between) first (n-left (n-sequence dot second)) (token_moved first (i.number + 1) q.before) rest in
    let whole = rule_stands table r-name i (up r.between) m (n-sequence first (n-left (n-sequence dot second))) w parts in
    let J : Input → Type 0 = λ y. Stands table i (n-rule {n = r-name} m (n-sequence first (n-left (n-sequence dot second)))) (up y) in
    let Z : Of r-name → Type 0 = λ y. Stands table i y (up j) in
    subst Z (the e) (subst J (no_turn_stands r.behind) whole)
named_at m (n-rule g (n-sequence first (n-more (n-right x) rest))) i j k z w h e = none e
named_at m (n-rule g (n-sequence first (n-more (n-left (n-sequence dot second)) (n-more x rest)))) i j k z w h e = none e

pub mark_read : {n : Rule} {i j : Ahead} {x : Of n} → table.marking n ≡ numbered → Takes (rule n) i x j → mark_of x ≡ mark_at numbered (input i)
unfolding Stands
mark_read {n = n} {i = i} {j = j} {x = n-rule m y} e p = sym (ap (λ w. mark_of w.0) p.stands) ∙ ap (λ g. mark_at g (input i)) e

pub name_stands : {i j : Ahead} {x : Of r-expr} {z : Of r-name} → Takes (rule r-expr) i x j → name_of x ≡ Some z → Stands table (input i) z (record (input j) { number = (mark_of x).number + 1 })
name_stands {i = i} {j = j} {x = x} {z = z} p e =
    let m : mark_of x ≡ mark_at numbered (input i) = mark_read {n = r-expr} refl p in
    let N : Mark → Type 0 = λ w. Stands table (input i) z (record (input j) { number = w.number + 1 }) in
    subst N (sym m) (by m (expr_path x) refl e)
  where
    by : mark_of x ≡ mark_at numbered (input i) → (o : Option (Of r-path)) → expr_path x ≡ o → named (mark_of x) o ≡ Some z → Stands table (input i) z (record (input j) { number = i.number + 1 })
    by m None h k = none k
    by m (Some path) h k = let at = expr_at x (input i) (input j) path (record { stands = p.stands }) h in named_at (mark_of x) path (input i) (input j) at.number z m at.stands k

same_length : (tokens : List Token) → length (lexemes tokens) ≡ length tokens
same_length [] = refl
same_length (x ∷ tokens) = omega (arith, same_length tokens)

-- what is not empty leaves fewer tokens
pub shorter : {d : Description Rule} {i j : Ahead} {x : Part d} → nullable table d ≡ false → Takes d i x j → length j.tokens + 1 ≤ length i.tokens
shorter {d = d} {i = i} {j = j} {x = x} n p =
    let some = takes_some table decides (erase x) (lexemes i.tokens) (lexemes j.tokens) n (is_spelled table decides d (lexemes i.tokens) (lexemes j.tokens) (erase x) p.is_read) in
    omega (arith, some, same_length i.tokens, same_length j.tokens)
