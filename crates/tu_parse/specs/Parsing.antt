-- What tokens are read as.
use Rattle.std.specs.Prelude.{◌≡◌, ℕ, Option, Some, None, Result, Ok, Err, slice_get}
use Rattle.tu_token.specs.declared.fault.ParseError.{ParseError}
use Rattle.tu_token.specs.declared.fault.ParseError.TheVariants.{Unexpected, Memory}
use Rattle.tu_token.specs.declared.token.Token.{Token}
use Rattle.tu_token.specs.Rules.{r-program}
use Rattle.tu_token.specs.Syntax.{Of, Spells, IsPlaced, IsSyntaxFault}
use Rattle.tu_token.specs.TokenList.{TokenList}

abbrev pub line_or : Option Token → ℕ → ℕ
line_or None line = line
line_or (Some token) line = token.line

-- the line of token k, or that of the end where there are k tokens
abbrev pub line_at : TokenList → ℕ → ℕ
line_at tokens k = line_or (slice_get tokens.items k) tokens.line

-- the tree spells the tokens, and stands at their places
pub record IsTreeOf (tokens : TokenList) (tree : Of r-program) : Type 0 where
  pub spelled : Spells tree tokens
  pub placed : IsPlaced tree tokens

-- the token at fault and its line, or want of memory
abbrev pub IsUnexpected : TokenList → ParseError → Type 0
IsUnexpected tokens (Unexpected token line) = IsSyntaxFault tokens token × (line ≡ line_at tokens token)
IsUnexpected tokens Memory = Unit {0}

-- the tree is the one that was found, unless memory ran out
abbrev pub Finds : Of r-program → Result (Of r-program) ParseError → Type 0
Finds tree (Ok found) = found ≡ tree
Finds tree (Err (Unexpected token line)) = ⊥
Finds tree (Err Memory) = Unit {0}
