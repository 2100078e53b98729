-- What taking the next token gives.
use Rattle.std.specs.Prelude.{◌≡◌, false, ◌∷◌, Option, Some, None}
use denote.Bor.{Bor}
use Rattle.tu_token.specs.declared.class.Class.{Class}
use Rattle.tu_token.specs.declared.token.Token.{Token}
use Rattle.tu_reader.specs.Ahead.{Ahead}
use Rattle.tu_reader.specs.Reads.{Sees}

-- the next token is of the class, and is left behind
pub record IsNext (c : Class) (i : Ahead) (first : Token) (j : Ahead) : Type 0 where
  pub tokens : i.tokens ≡ first ∷ j.tokens
  pub class : first.class ≡ c
  pub after : j ≡ record i { tokens = j.tokens }

abbrev pub TakesNext : Class → Ahead → Option (Bor Token) → Ahead → Type 0
TakesNext c i (Some first) j = IsNext c i first.now j
TakesNext c i None j = Sees c i false × (j ≡ i)
