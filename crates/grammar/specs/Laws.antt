-- The laws of a grammar and its reader.
use Rattle.std.specs.Prelude.{◌≡◌, ◌≢◌, ℕ, ◌↔◌, ◌⊎◌, true, List, [], ◌++◌}
use Rattle.grammar.specs.Classes.{Fits}
use Rattle.grammar.specs.Description.{Lexeme, Description, rule, Derivation, print}
use Rattle.grammar.specs.Fault.{IsFaultAt}
use Rattle.grammar.specs.Grammar.{Grammar, ok}
use Rattle.grammar.specs.Placed.{Place, Input, marked, Stands, IsPlaced, HasKeptTexts}
use Rattle.grammar.specs.Tree.{Node, erase, Spells}
use Rattle.grammar.specs.Reading.{found, unfinished, read, StopsAt}

module _ {Rule : Type 0} {body : Rule → Description Rule} (g : Grammar body) where
  -- the reader always ends
  abbrev pub Finishes : Type 0
  Finishes = (d : Description Rule) (u : List Lexeme) → read g d u ≢ unfinished

  -- what is read is spelled by the lexemes before those that are left
  abbrev pub ReadIsSpelled : Type 0
  ReadIsSpelled = (d : Description Rule) (u rest : List Lexeme) (x : Derivation body d) → read g d u ≡ found x rest → u ≡ print x ++ rest

  -- what a derivation prints is read again as it, before all that can follow
  abbrev pub PrintIsRead : Type 0
  PrintIsRead = (d : Description Rule) (x : Derivation body d) (follow : List ℕ) (rest : List Lexeme) → ok g d follow ≡ true → Fits follow rest → read g d (print x ++ rest) ≡ found x rest

  -- what a rule's derivation prints is read again as it
  abbrev pub RuleIsRead : Type 0
  RuleIsRead = (n : Rule) (x : Derivation body (rule n)) → read g (rule n) (print x) ≡ found x []

  -- a list has one derivation at most
  abbrev pub HasOneDerivation : Type 0
  HasOneDerivation = (n : Rule) (x y : Derivation body (rule n)) → print x ≡ print y → x ≡ y

  -- the place of a fault is where the reader stops
  abbrev pub StopsAtFault : Type 0
  StopsAtFault = (n : Rule) (u : List Lexeme) (k : ℕ) → IsFaultAt body (rule n) u k ↔ StopsAt (read g (rule n) u) u k

  -- a list is what a derivation prints, or it has a fault
  abbrev pub IsSpelledOrFaulty : Type 0
  IsSpelledOrFaulty = (n : Rule) (u : List Lexeme) → ((x : Derivation body (rule n)) × (print x ≡ u)) ⊎ ((k : ℕ) × IsFaultAt body (rule n) u k)

  -- a list at given places has one tree at most
  abbrev pub HasOneTree : Type 0
  HasOneTree = (n : Rule) (u : List Lexeme) (places : List Place) (end : Place) (x y : Node body (rule n)) → Spells x u → Spells y u → IsPlaced g x places end → IsPlaced g y places end → x ≡ y

  -- a derivation with marks from i on is the same derivation, and stands from there to where the marks end
  abbrev pub IsMarkedAgain : Type 0
  IsMarkedAgain = (d : Description Rule) (x : Derivation body d) (i : Input) → HasKeptTexts g (print x) → (erase (marked g x i).0 ≡ x) × Stands g i (marked g x i).0 (marked g x i).1

module _ {Rule : Type 0} (body : Rule → Description Rule) where
  -- a list has one place of a fault at most
  abbrev pub HasOneFault : Type 0
  HasOneFault = (d : Description Rule) (u : List Lexeme) (j k : ℕ) → IsFaultAt body d u j → IsFaultAt body d u k → j ≡ k

  -- a list with a fault is what no derivation prints
  abbrev pub FaultyIsNotSpelled : Type 0
  FaultyIsNotSpelled = (d : Description Rule) (u : List Lexeme) (k : ℕ) → IsFaultAt body d u k → (x : Derivation body d) → print x ≢ u
