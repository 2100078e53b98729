-- Trees of programs, and the place of a syntax fault.
use Rattle.std.specs.Coded.{Coded}
use Rattle.std.specs.Prelude.{ℕ}
use Rattle.grammar.specs.Coded.{coded}
use Rattle.grammar.specs.Description.{rule}
use Rattle.grammar.specs.Fault.{IsFaultAt}
use Rattle.grammar.specs.Placed.{IsPlaced as is_placed}
use Rattle.grammar.specs.Tree.{Node, Spells as spells}
use Rattle.tu_token.specs.ClassNumbers.{lexemes, places, end_of}
use Rattle.tu_token.specs.Rules.{Rule, r-program, body}
use Rattle.tu_token.specs.Table.{some, table}
use Rattle.tu_token.specs.TokenList.{TokenList}

-- a tree of a rule
abbrev pub Of : Rule → Type 0
Of n = Node body (rule n)

abbrev pub coded_of : (n : Rule) → Coded (Of n)
coded_of n = coded body some (rule n)

-- the tree spells the tokens, by their classes and texts
abbrev pub Spells : Of r-program → TokenList → Type 0
Spells tree tokens = spells tree (lexemes tokens.items)

-- the numbers, starts and lines in the tree are those that the places of the tokens give
abbrev pub IsPlaced : Of r-program → TokenList → Type 0
IsPlaced tree tokens = is_placed table tree (places tokens.items) (end_of tokens)

-- Token k, or the end behind the last token, is the least that fits no program: some program begins with the tokens before it,
-- and none with those and it.
abbrev pub IsSyntaxFault : TokenList → ℕ → Type 0
IsSyntaxFault tokens k = IsFaultAt body (rule r-program) (lexemes tokens.items) k
