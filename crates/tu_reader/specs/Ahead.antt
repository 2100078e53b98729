-- What stands before a reader: the tokens that are left, the end, and the number of the next node.
use Rattle.std.specs.Prelude.{◌≡◌, ℕ, ◌+◌, ◌*◌, ◌^◌, ◌<◌, ◌≤◌, List, [], ◌∷◌, Option, Some, None, length}
use Rattle.grammar.specs.Placed.{Place, Input}
use Rattle.tu_token.specs.ClassNumbers.{places}
use Rattle.tu_token.specs.declared.class.Class.{Class}
use Rattle.tu_token.specs.declared.token.Token.{Token}

pub record Ahead : Type 0 where
  pub tokens : List Token
  pub end : Place
  pub number : ℕ

-- the places that are left, as the marks of a tree follow from them
abbrev pub input : Ahead → Input
input a = record { places = places a.tokens; end = a.end; number = a.number }

-- Fewer than 64 nodes begin with each token, so this number falls with each token that is read.
abbrev pub weight : Ahead → ℕ
weight a = a.number + 64 * length a.tokens

-- nodes can still be numbered: the weight and some more are at most a number below 2^32
abbrev pub HasRoom : ℕ → ℕ → Ahead → Type 0
HasRoom most more a = (weight a + more ≤ most) × (most < 2 ^ 32)

-- the class of the next token
abbrev pub class_of : List Token → Option Class
class_of [] = None
class_of (token ∷ tokens) = Some token.class

-- a class that is none of some
abbrev pub IsNone : Class → List Class → Type 0
IsNone c [] = Unit {0}
IsNone c (k ∷ classes) = (c ≡ k → ⊥) × IsNone c classes
