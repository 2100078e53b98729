-- A grammar with what a reader by one lexeme ahead must know of it, and the test that this is right: the LL(1) condition.
use Rattle.std.specs.Prelude.{◌≡◌, ℕ, ◌+◌, ◌≤◌, Bool, true, false, cond, not, nat_lt, ◌&&◌, ◌||◌, List, [], ◌∷◌, ◌++◌, Option, Some}
use Rattle.grammar.specs.Classes.{are_apart, are_within}
use Rattle.grammar.specs.Description.{Description, token, empty, sequence, choice, repetition, rule, span, Derivation, d-token, d-empty, d-sequence, d-left, d-right, d-none, d-more, d-rule, d-span, d-short, print}
use Rattle.grammar.specs.Tree.{Node}

-- what a rule's nodes are marked with: number, start and line, or start and line alone, or nothing
pub data Marking : Type 0 where
  numbered : Marking
  placed : Marking
  unmarked : Marking

pub record Grammar {Rule : Type 0} (body : Rule → Description Rule) : Type 0 where
  -- whether the rule spells the empty list
  pub can_be_empty : Rule → Bool
  -- the classes that begin the rule, and those that follow it
  pub firsts : Rule → List ℕ
  pub follows : Rule → List ℕ
  -- above the ranks of the rules with which the rule begins, and below ranks
  pub rank : Rule → ℕ
  pub ranks : ℕ
  -- what a long rule's derivation is as a short rule's, if it is one, and whether each of the short rule's is one
  pub shorten : (long short : Rule) → Derivation body (rule long) → Option (Derivation body (rule short))
  pub covers : Rule → Rule → Bool
  -- a tree of the rule
  pub some : (n : Rule) → Node body (body n)
  pub marking : Rule → Marking
  -- whether the texts of the class stand in the tree
  pub keeps_text : ℕ → Bool

module _ {Rule : Type 0} {body : Rule → Description Rule} (g : Grammar body) where
  -- whether it spells the empty list
  abbrev pub nullable : Description Rule → Bool
  nullable (token c) = false
  nullable empty = true
  nullable (sequence a b) = nullable a && nullable b
  nullable (choice a b) = nullable a || nullable b
  nullable (repetition a) = true
  nullable (rule n) = g.can_be_empty n
  nullable (span long short b) = (g.can_be_empty long && nullable b) || g.can_be_empty short

  -- the classes that begin it
  abbrev pub first : Description Rule → List ℕ
  first (token c) = c ∷ []
  first empty = []
  first (sequence a b) = first a ++ cond (nullable a) (first b) []
  first (choice a b) = first a ++ first b
  first (repetition a) = first a
  first (rule n) = g.firsts n
  first (span long short b) = (g.firsts long ++ cond (g.can_be_empty long) (first b) []) ++ g.firsts short

  -- the classes that come next before what is followed by some classes
  abbrev pub first_before : Description Rule → List ℕ → List ℕ
  first_before d follow = first d ++ cond (nullable d) follow []

  -- whether the next lexeme decides, where one of some classes follows
  abbrev pub ok : Description Rule → List ℕ → Bool
  ok (token c) follow = true
  ok empty follow = true
  ok (sequence a b) follow = ok a (first_before b follow) && ok b follow
  ok (choice a b) follow = not (nullable a) && (are_apart (first a) (first_before b follow) && (ok a follow && ok b follow))
  ok (repetition a) follow = not (nullable a) && (are_apart (first a) follow && ok a (first a ++ follow))
  ok (rule n) follow = are_within follow (g.follows n)
  ok (span long short b) follow = g.covers long short && (not (nullable b) && (are_apart (first b) follow && (are_within (first b ++ follow) (g.follows long) && ok b follow)))

  -- whether it begins with rules below rank r alone
  abbrev pub begins_below : ℕ → Description Rule → Bool
  begins_below r (token c) = true
  begins_below r empty = true
  begins_below r (sequence a b) = begins_below r a && begins_below (cond (nullable a) r g.ranks) b
  begins_below r (choice a b) = begins_below r a && begins_below r b
  begins_below r (repetition a) = begins_below r a
  begins_below r (rule n) = nat_lt (g.rank n) r
  begins_below r (span long short b) = nat_lt (g.rank long) r && begins_below (cond (g.can_be_empty long) r g.ranks) b

  -- what the test computes of a rule
  abbrev pub passes : Rule → Bool
  passes n = (not (nullable (body n)) || g.can_be_empty n) && (are_within (first (body n)) (g.firsts n) && (ok (body n) (g.follows n) && (begins_below (g.rank n) (body n) && nat_lt (g.rank n) g.ranks)))

-- how many short rules it has
abbrev pub shorts : {Rule : Type 0} {body : Rule → Description Rule} {d : Description Rule} → Derivation body d → ℕ
shorts (d-token text) = 0
shorts d-empty = 0
shorts (d-sequence x y) = shorts x + shorts y
shorts (d-left x) = shorts x
shorts (d-right y) = shorts y
shorts d-none = 0
shorts (d-more x xs) = shorts x + shorts xs
shorts (d-rule x) = shorts x
shorts (d-span x y) = shorts x + shorts y
shorts (d-short z) = shorts z + 1

-- a derivation of the long rule that is shortened to one of the short rule
pub record Lengthened {Rule : Type 0} {body : Rule → Description Rule} (g : Grammar body) (long short : Rule) (z : Derivation body (rule short)) : Type 0 where
  pub whole : Derivation body (rule long)
  pub is_shortened : g.shorten long short whole ≡ Some z
  pub same : print whole ≡ print z
  pub plain : shorts whole ≤ shorts z

-- One lexeme ahead decides: each rule passes the test, and long and short rules are what they should be.
pub record IsLl1 {Rule : Type 0} {body : Rule → Description Rule} (g : Grammar body) : Type 0 where
  pub test : (n : Rule) → passes g n ≡ true
  pub shortened : (long short : Rule) (x : Derivation body (rule long)) (z : Derivation body (rule short)) → g.shorten long short x ≡ Some z → print z ≡ print x
  pub lengthened : (long short : Rule) → g.covers long short ≡ true → (z : Derivation body (rule short)) → Lengthened g long short z
