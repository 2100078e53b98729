-- How many numbers a tree takes: at most some for each lexeme, and a cost of its description. With a table of the rules' costs this is computed.
use Rattle.std.specs.Prelude.{◌≡◌, ℕ, ◌+◌, ◌-◌, ◌*◌, ◌≤◌, max, Bool, true, cond, not, nat_le, ◌&&◌, ◌||◌, length}
use Rattle.grammar.specs.Description.{Description, token, empty, sequence, choice, repetition, rule, span, Derivation, d-token, d-empty, d-sequence, d-left, d-right, d-none, d-more, d-rule, d-span, d-short, print}
use Rattle.grammar.specs.Grammar.{Grammar, Marking, numbered, placed, unmarked, nullable}
use Rattle.grammar.specs.Placed.{Input, marked}

abbrev pub one_if_numbered : Marking → ℕ
one_if_numbered numbered = 1
one_if_numbered placed = 0
one_if_numbered unmarked = 0

module _ {Rule : Type 0} {body : Rule → Description Rule} (g : Grammar body) where
  -- how many of its rules have a number
  abbrev pub counted : {d : Description Rule} → Derivation body d → ℕ
  counted (d-token text) = 0
  counted d-empty = 0
  counted (d-sequence x y) = counted x + counted y
  counted (d-left x) = counted x
  counted (d-right y) = counted y
  counted d-none = 0
  counted (d-more x xs) = counted x + counted xs
  counted (d-rule {n = n} x) = counted x + one_if_numbered (g.marking n)
  counted (d-span x y) = counted x + counted y
  counted (d-short z) = counted z

  module _ (most : ℕ) (costs : Rule → ℕ) where
    -- of two parts that both take a lexeme, one lexeme pays for both
    abbrev pub cost_of_both : Bool → Bool → ℕ → ℕ → ℕ
    cost_of_both a_empty b_empty a b = cond (a_empty || b_empty) (a + b) (a + b - most)

    abbrev pub cost : Description Rule → ℕ
    cost (token c) = 0
    cost empty = 0
    cost (sequence a b) = cost_of_both (nullable g a) (nullable g b) (cost a) (cost b)
    cost (choice a b) = max (cost a) (cost b)
    cost (repetition a) = 0
    cost (rule n) = costs n
    cost (span long short b) = max (cost_of_both (g.can_be_empty long) (nullable g b) (costs long) (cost b)) (costs short)

    -- whether a lexeme pays for each turn of its repetitions
    abbrev pub pays_turns : Description Rule → Bool
    pays_turns (token c) = true
    pays_turns empty = true
    pays_turns (sequence a b) = pays_turns a && pays_turns b
    pays_turns (choice a b) = pays_turns a && pays_turns b
    pays_turns (repetition a) = not (nullable g a) && (nat_le (cost a) most && pays_turns a)
    pays_turns (rule n) = true
    pays_turns (span long short b) = pays_turns b

    -- whether the rule's cost is as the table says
    abbrev pub pays : Rule → Bool
    pays n = nat_le (cost (body n) + one_if_numbered (g.marking n)) (costs n) && pays_turns (body n)

    -- the numbers that a rule's tree takes
    abbrev pub NumbersArePaid : Type 0
    NumbersArePaid = ((n : Rule) → pays n ≡ true) → (n : Rule) (x : Derivation body (rule n)) (i : Input) → (marked g x i).1.number ≤ i.number + most * length (print x) + costs n
