-- The place of a syntax fault.
use Rattle.std.specs.Prelude.{◌≡◌, ◌≢◌, ℕ, ◌≤◌, List, ◌++◌, length, take, drop}
use Rattle.grammar.specs.Classes.{next_class}
use Rattle.grammar.specs.Description.{Lexeme, Description, Derivation, print}

-- some derivation's print begins with the lexemes
pub record CanBegin {Rule : Type 0} (body : Rule → Description Rule) (d : Description Rule) (u : List Lexeme) : Type 0 where
  pub whole : Derivation body d
  pub more : List Lexeme
  pub begins : print whole ≡ u ++ more

-- Some derivation's print begins with the lexemes before place k, and none has a lexeme of the class of the one at k behind
-- them. At the end of the lexemes it is no derivation's print that ends there.
pub record IsFaultAt {Rule : Type 0} (body : Rule → Description Rule) (d : Description Rule) (u : List Lexeme) (k : ℕ) : Type 0 where
  pub within : k ≤ length u
  pub before : CanBegin body d (take k u)
  pub no_further : (x : Derivation body d) (rest : List Lexeme) → next_class rest ≡ next_class (drop k u) → print x ≢ take k u ++ rest
