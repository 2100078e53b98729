-- Computed rows of a small grammar that has each form, and of grammars that fail the test.
use Rattle.std.proofs.Common.{◌≡◌, ℕ, Bool, true, false, ◌||◌, ◌==◌, List, [], ◌∷◌, Option, Some, None, refl, sym, ap, arith}
use Rattle.grammar.specs.Coded.{encode, decode}
use Rattle.grammar.specs.Counted.{pays}
use Rattle.grammar.specs.Description.{Lexeme, Description, token, empty, sequence, choice, repetition, rule, span, Derivation, d-token, d-empty, d-sequence, d-left, d-right, d-none, d-more, d-rule, d-span, d-short, print}
use Rattle.grammar.specs.Grammar.{Grammar, numbered, placed, unmarked, IsLl1, Lengthened, ok, begins_below, passes}
use Rattle.grammar.specs.Placed.{Place, marked, IsPlaced}
use Rattle.grammar.specs.Reading.{found, fault, read}
use Rattle.grammar.specs.Tree.{Mark, no_mark, Node, n-token, n-text, n-empty, n-sequence, n-left, n-right, n-none, n-more, n-rule, n-span, n-short}

-- list = { range [";"] }, range = sum ".." sum | name, sum = atom { "+" atom }, atom = id | number | "(" sum ")", name = id
-- 1 ";", 2 id, 3 number, 4 "+", 5 "..", 6 "(", 7 ")"
data Rule : Type 0 where
  a_list : Rule
  a_range : Rule
  a_sum : Rule
  an_atom : Rule
  a_name : Rule

abbrev body : Rule → Description Rule
body a_list = repetition (sequence (rule a_range) (choice (token 1) empty))
body a_range = span a_sum a_name (sequence (token 5) (rule a_sum))
body a_sum = sequence (rule an_atom) (repetition (sequence (token 4) (rule an_atom)))
body an_atom = choice (token 2) (choice (token 3) (sequence (token 6) (sequence (rule a_sum) (token 7))))
body a_name = token 2

-- a row of a table over the rules, in their order
abbrev row : {A : Type 0} → A → A → A → A → A → Rule → A
row list range sum atom name a_list = list
row list range sum atom name a_range = range
row list range sum atom name a_sum = sum
row list range sum atom name an_atom = atom
row list range sum atom name a_name = name

abbrev as_name : Derivation body (rule a_sum) → Option (Derivation body (rule a_name))
as_name (d-rule (d-sequence (d-rule (d-left (d-token text))) d-none)) = Some (d-rule (d-token text))
as_name (d-rule (d-sequence x xs)) = None

abbrev shorten : (long short : Rule) → Derivation body (rule long) → Option (Derivation body (rule short))
shorten a_sum a_name x = as_name x
shorten long short x = None

abbrev covers : Rule → Rule → Bool
covers a_sum a_name = true
covers long short = false

abbrev some_atom : Node body (body an_atom)
some_atom = n-left n-token

abbrev some_sum : Node body (body a_sum)
some_sum = n-sequence (n-rule no_mark some_atom) n-none

abbrev some : (n : Rule) → Node body (body n)
some a_list = n-none
some a_range = n-span (n-rule no_mark some_sum) (n-sequence n-token (n-rule no_mark some_sum))
some a_sum = some_sum
some an_atom = some_atom
some a_name = n-token

abbrev small : Grammar body
small = record {
  can_be_empty = row true false false false false;
  firsts = row (2 ∷ 3 ∷ 6 ∷ []) (2 ∷ 3 ∷ 6 ∷ []) (2 ∷ 3 ∷ 6 ∷ []) (2 ∷ 3 ∷ 6 ∷ []) (2 ∷ []);
  follows = row [] (1 ∷ 2 ∷ 3 ∷ 6 ∷ []) (1 ∷ 2 ∷ 3 ∷ 5 ∷ 6 ∷ 7 ∷ []) (1 ∷ 2 ∷ 3 ∷ 4 ∷ 5 ∷ 6 ∷ 7 ∷ []) [];
  rank = row 3 2 1 0 0;
  ranks = 4;
  shorten = shorten;
  covers = covers;
  some = some;
  marking = row unmarked numbered numbered placed numbered;
  keeps_text = λ c. (c == 2) || (c == 3);
}

test : (n : Rule) → passes small n ≡ true
test a_list = refl
test a_range = refl
test a_sum = refl
test an_atom = refl
test a_name = refl

nothing : {A : Type 0} {x : A} → None ≡ Some x → ⊥
nothing e = cc

name_shortened : (x : Derivation body (rule a_sum)) (z : Derivation body (rule a_name)) → as_name x ≡ Some z → print z ≡ print x
name_shortened (d-rule (d-sequence (d-rule (d-left (d-token text))) d-none)) z e =
    let get : Option (Derivation body (rule a_name)) → Derivation body (rule a_name) = elim [ Some y ↦ y | None ↦ z ] in
    sym (ap (λ o. print (get o)) e)
name_shortened (d-rule (d-sequence (d-rule (d-left (d-token text))) (d-more x xs))) z e = absurd (nothing e)
name_shortened (d-rule (d-sequence (d-rule (d-right x)) xs)) z e = absurd (nothing e)

shortened : (long short : Rule) (x : Derivation body (rule long)) (z : Derivation body (rule short)) → shorten long short x ≡ Some z → print z ≡ print x
shortened a_sum a_name x z e = name_shortened x z e
shortened long short x z e = absurd (nothing e)

name_lengthened : (z : Derivation body (rule a_name)) → Lengthened small a_sum a_name z
name_lengthened (d-rule (d-token text)) = record {
  whole = d-rule (d-sequence (d-rule (d-left (d-token text))) d-none);
  is_shortened = refl;
  same = refl;
  plain = omega arith;
}

lengthened : (long short : Rule) → covers long short ≡ true → (z : Derivation body (rule short)) → Lengthened small long short z
lengthened a_sum a_name e z = name_lengthened z
lengthened long short e z = cc

-- the small grammar passes the test
small_is_ll1 : IsLl1 small
small_is_ll1 = record { test = test; shortened = shortened; lengthened = lengthened }

abbrev x : Lexeme
x = (2, 120 ∷ [])

abbrev one : Lexeme
one = (3, 49 ∷ [])

abbrev sign : ℕ → Lexeme
sign c = (c, [])

-- `1 + x`
abbrev one_and_x : Derivation body (rule a_sum)
one_and_x = d-rule (d-sequence (d-rule (d-right (d-left (d-token (49 ∷ []))))) (d-more (d-sequence (d-token []) (d-rule (d-left (d-token (120 ∷ []))))) d-none))

-- `x`
abbrev only_x : Derivation body (rule a_sum)
only_x = d-rule (d-sequence (d-rule (d-left (d-token (120 ∷ [])))) d-none)

prints_sum : print one_and_x ≡ one ∷ sign 4 ∷ x ∷ []
prints_sum = refl

-- `x ; (x) .. 1 + x`
abbrev two_ranges : List Lexeme
two_ranges = x ∷ sign 1 ∷ sign 6 ∷ x ∷ sign 7 ∷ sign 5 ∷ one ∷ sign 4 ∷ x ∷ []

abbrev bracketed_x : Derivation body (rule a_sum)
bracketed_x = d-rule (d-sequence (d-rule (d-right (d-right (d-sequence (d-token []) (d-sequence only_x (d-token [])))))) d-none)

abbrev ranges : Derivation body (rule a_list)
ranges = d-rule (d-more (d-sequence (d-rule (d-short (d-rule (d-token (120 ∷ []))))) (d-left (d-token []))) (d-more (d-sequence (d-rule (d-span bracketed_x (d-sequence (d-token []) one_and_x))) (d-right d-empty)) d-none))

prints_ranges : print ranges ≡ two_ranges
prints_ranges = refl

reads : (read small (rule a_list) two_ranges ≡ found ranges []) × (read small (rule a_list) [] ≡ found (d-rule d-none) []) × (read small (rule a_sum) (x ∷ sign 7 ∷ x ∷ []) ≡ found only_x (sign 7 ∷ x ∷ []))
unfolding read
reads = (refl, refl, refl)

-- a sum that is no name needs `..` behind it, and `..` needs a sum
faults : (read small (rule a_list) (one ∷ sign 1 ∷ []) ≡ fault (sign 1 ∷ [])) × (read small (rule a_range) (x ∷ sign 4 ∷ x ∷ []) ≡ fault []) × (read small (rule a_list) (x ∷ sign 5 ∷ sign 7 ∷ []) ≡ fault (sign 7 ∷ []))
unfolding read
faults = (refl, refl, refl)

-- marks of `x ; x`, where the list has none, an atom has its place, and a range, a sum and a name have a number
abbrev two_names : Derivation body (rule a_list)
two_names = d-rule (d-more (d-sequence (d-rule (d-short (d-rule (d-token (120 ∷ []))))) (d-left (d-token []))) (d-more (d-sequence (d-rule (d-short (d-rule (d-token (120 ∷ []))))) (d-right d-empty)) d-none))

abbrev mark : ℕ → ℕ → ℕ → Mark
mark number start line = record { number = number; start = start; line = line }

abbrev at : ℕ → ℕ → Place
at start line = record { start = start; line = line }

abbrev marked_names : Node body (rule a_list)
marked_names = n-rule no_mark (n-more (n-sequence (n-rule (mark 0 0 1) (n-short (n-rule (mark 1 0 1) (n-text (120 ∷ []) 0 1)))) (n-left n-token)) (n-more (n-sequence (n-rule (mark 2 4 2) (n-short (n-rule (mark 3 4 2) (n-text (120 ∷ []) 4 2)))) (n-right n-empty)) n-none))

marks : marked small two_names (record { places = at 0 1 ∷ at 2 1 ∷ at 4 2 ∷ []; end = at 5 2; number = 0 }) ≡ (marked_names, record { places = []; end = at 5 2; number = 4 })
marks = refl

names_placed : IsPlaced small marked_names (at 0 1 ∷ at 2 1 ∷ at 4 2 ∷ []) (at 5 2)
names_placed = refl

-- at the end a node stands at the end
marks_at_end : (marked small only_x (record { places = []; end = at 5 2; number = 7 })).0 ≡ n-rule (mark 7 5 2) (n-sequence (n-rule (mark 0 5 2) (n-left (n-text (120 ∷ []) 5 2))) n-none)
marks_at_end = refl

decoded : decode body some (rule a_list) (encode body some marked_names) ≡ marked_names
decoded = refl

-- an alternative that begins as the other, an empty one first, a turn that begins as what follows, an empty turn, more that begins as what follows a
-- short rule, a short rule that the long one does not cover, a follower that is not listed
undecided : (ok small (choice (token 2) (rule an_atom)) [] ≡ false) × (ok small (choice empty (token 2)) [] ≡ false) × (ok small (sequence (repetition (token 2)) (token 2)) [] ≡ false)
    × (ok small (repetition (repetition (token 2))) [] ≡ false) × (ok small (span a_sum a_name (token 5)) (5 ∷ []) ≡ false) × (ok small (span an_atom a_name (token 5)) [] ≡ false) × (ok small (rule an_atom) (8 ∷ []) ≡ false)
undecided = (refl, refl, refl, refl, refl, refl, refl)

-- a rule that begins with itself, also behind what may be empty, but not behind a token
left_recursive : (begins_below small (small.rank a_sum) (sequence (rule a_sum) (token 4)) ≡ false) × (begins_below small (small.rank a_list) (sequence (repetition (token 1)) (rule a_list)) ≡ false) × (begins_below small 0 (sequence (token 6) (rule a_sum)) ≡ true)
left_recursive = (refl, refl, refl)

-- a table with one wrong row
wrong_tables : (passes (record small { firsts = λ n. 2 ∷ [] }) an_atom ≡ false) × (passes (record small { follows = λ n. [] }) a_sum ≡ false) × (passes (record small { rank = λ n. 0 }) a_sum ≡ false)
    × (passes (record small { ranks = 3 }) a_list ≡ false) × (passes (record small { can_be_empty = λ n. false }) a_list ≡ false)
wrong_tables = (refl, refl, refl, refl, refl)

-- with two numbers a lexeme a range costs two, a sum and a name one, and lists and atoms none; with one a lexeme the turns of a list are not paid
costs : (n : Rule) → pays small 2 (row 0 2 1 0 1) n ≡ true
costs a_list = refl
costs a_range = refl
costs a_sum = refl
costs an_atom = refl
costs a_name = refl

too_dear : pays small 1 (row 0 2 1 0 1) a_list ≡ false
too_dear = refl
