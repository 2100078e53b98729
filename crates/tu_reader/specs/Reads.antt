-- What a function of the reader promises.
use Rattle.std.specs.Prelude.{◌≡◌, ℕ, ◌+◌, Bool, true, false, List, [], ◌∷◌, ◌++◌, Option, Some, None, Result, MatchResult}
use Rattle.grammar.specs.Classes.{starts}
use Rattle.grammar.specs.Description.{Description, empty, rule}
use Rattle.grammar.specs.Grammar.{numbered, placed, first}
use Rattle.grammar.specs.Placed.{Stands, mark_at}
use Rattle.grammar.specs.Reading.{found, fault, read}
use Rattle.grammar.specs.Tree.{Mark, n-token, n-empty, erase}
use Rattle.tu_token.specs.declared.class.Class.{Class}
use Rattle.tu_token.specs.ClassNumbers.{number, lexemes}
use Rattle.tu_token.specs.Rules.{Rule, t}
use Rattle.tu_token.specs.Syntax.{Of}
use Rattle.tu_token.specs.Table.{table}
use Rattle.tu_expr.specs.Parts.{Part}
use Rattle.tu_reader.specs.Ahead.{Ahead, input}
use Rattle.tu_reader.specs.declared.stop.Stop.{Stop}
use Rattle.tu_reader.specs.declared.stop.Stop.TheVariants.{Unexpected}

-- The grammar's reader finds the tree x before what i is, which stands there, and leaves j.
pub record Takes (d : Description Rule) (i : Ahead) (x : Part d) (j : Ahead) : Type 0 where
  pub is_read : read table d (lexemes i.tokens) ≡ found (erase x) (lexemes j.tokens)
  pub stands : Stands table (input i) x (input j)

-- The grammar's reader has a fault where j is, unless memory ran out.
pub record Stops (d : Description Rule) (i : Ahead) (e : Stop) (j : Ahead) : Type 0 where
  pub is_fault : e ≡ Unexpected → read table d (lexemes i.tokens) ≡ fault (lexemes j.tokens)

-- what a function found, shown as a tree, is what the grammar's reader finds
abbrev pub Reads : {X : Type 0} (d : Description Rule) → (X → Part d) → Result X Stop → Ahead → Ahead → Type 0
Reads d show r i j = MatchResult r (λ x. Takes d i (show x) j) (λ e. Stops d i e j)

-- whether the next token is of one of the classes
pub record Starts (classes : List ℕ) (i : Ahead) (b : Bool) : Type 0 where
  pub is : starts classes (lexemes i.tokens) ≡ b

-- whether the next token is one with which it begins
abbrev pub Begins : Description Rule → Ahead → Bool → Type 0
Begins d i b = Starts (first table d) i b

-- what a function found, if what it looks for begins with the next token
abbrev pub Offers : {X : Type 0} (d : Description Rule) → (X → Part d) → Option X → Ahead → Ahead → Type 0
Offers d show (Some x) i j = Takes d i (show x) j
Offers d show None i j = Begins d i false × Takes empty i n-empty j

-- the same of a function that may also have a fault in it
abbrev pub Tries : {X : Type 0} (d : Description Rule) → (X → Part d) → Result (Option X) Stop → Ahead → Ahead → Type 0
Tries d show r i j = MatchResult r (λ o. Offers d show o i j) (λ e. Begins d i true × Stops d i e j)

-- whether the next token is of the class
abbrev pub Sees : Class → Ahead → Bool → Type 0
Sees c i b = Starts (number c ∷ []) i b

-- a token of the class was taken, if it is next
abbrev pub Eats : Class → Bool → Ahead → Ahead → Type 0
Eats c true i j = Sees c i true × Takes (t c) i n-token j
Eats c false i j = Sees c i false × Takes empty i n-empty j

-- a node with a number begins here, and its parts are read from j on
pub record Marks (m : Mark) (i j : Ahead) : Type 0 where
  pub is_mark : m ≡ mark_at numbered (input i)
  pub after : j ≡ record i { number = i.number + 1 }

-- a part without a number begins here
pub record IsSpot (m : Mark) (i : Ahead) : Type 0 where
  pub is_mark : m ≡ mark_at placed (input i)

-- the grammar's reader finds one more part before what i is, and it was added to those before
abbrev pub Adds : {U : Type 0} (n : Rule) → Result U Stop → List (Of n) → List (Of n) → Ahead → Ahead → Type 0
Adds n r old new i j = MatchResult r (λ _. (x : Of n) × (new ≡ old ++ x ∷ []) × Takes (rule n) i x j) (λ e. Stops (rule n) i e j)
