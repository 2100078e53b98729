-- What is written of a part of a tree.
use Rattle.std.specs.Prelude.{◌≡◌, ℕ, zero, suc, List, ◌++◌}
use Rattle.grammar.specs.Description.{Lexeme, Description, print}
use Rattle.grammar.specs.Tree.{n-token, n-sequence, erase}
use Rattle.tu_token.specs.declared.class.Class.{Class}
use Rattle.tu_token.specs.declared.class.Class.TheVariants.{SignComma, WordEnd}
use Rattle.tu_token.specs.Rules.{Rule, ◌⨟◌, t}
use Rattle.tu_expr.specs.Parts.{Part}

-- the lexemes that a part spells were added
pub record Writes {d : Description Rule} (x : Part d) (old new : List Lexeme) : Type 0 where
  pub is : new ≡ old ++ print (erase x)

-- a sign or word
abbrev pub word : (c : Class) → Part (t c)
word c = n-token

-- `end` and a word
abbrev pub ended : (c : Class) → Part (t WordEnd ⨟ t c)
ended c = n-sequence n-token n-token

-- a comma was added, but nothing before the part at place 0
abbrev pub Separates : ℕ → List Lexeme → List Lexeme → Type 0
Separates zero old new = new ≡ old
Separates (suc k) old new = Writes (word SignComma) old new
