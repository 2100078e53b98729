-- What holds of every source and of its tokens.
use Rattle.std.specs.Prelude.{◌≡◌, ◌⊎◌, ℕ, ◌+◌, ◌≤◌, true, List, length}
use Rattle.std.specs.List.{All, list_all}
use Rattle.std.specs.Char.{is_ascii_digit}
use Rattle.tu_base.specs.declared.limits.TheConstants.{MOST_INT, MOST_TOKENS}
use Rattle.tu_token.specs.declared.class.Class.TheVariants.{Number}
use Rattle.tu_token.specs.declared.fault.LexError.{LexError}
use Rattle.tu_token.specs.declared.token.Token.{Token}
use Rattle.tu_token.specs.Lexemes.{IsLexed}
use Rattle.tu_token.specs.LexFaults.{HasNoFault, IsLexFault, value_after}
use Rattle.tu_token.specs.TokenList.{TokenList}

-- digits alone, of a number that is an int
pub record IsSmallNumber (text : List ℕ) : Type 0 where
  pub digits : list_all is_ascii_digit text ≡ true
  pub small : value_after 0 text ≤ MOST_INT

-- a token on a line up to this one, whose number is small where it is one
pub record IsWithinLimits (most : ℕ) (token : Token) : Type 0 where
  pub number : token.class ≡ Number → IsSmallNumber token.text
  pub line : token.line ≤ most

-- no more tokens than there may be, on the lines that a source of so many bytes can have
pub record AreWithinLimits (source : List ℕ) (tokens : TokenList) : Type 0 where
  pub few : length tokens.items ≤ MOST_TOKENS
  pub each : All (IsWithinLimits (length source + 1)) tokens.items
  pub line : tokens.line ≤ length source + 1

-- each source is tokens or has a first fault
abbrev pub TokensOrFault : Type 0
TokensOrFault = (source : List ℕ) → ((tokens : TokenList) × IsLexed source tokens × HasNoFault source) ⊎ ((error : LexError) × IsLexFault source error)

-- the tokens of a source without a fault
abbrev pub TokensAreWithinLimits : Type 0
TokensAreWithinLimits = (source : List ℕ) (tokens : TokenList) → IsLexed source tokens → HasNoFault source → AreWithinLimits source tokens
