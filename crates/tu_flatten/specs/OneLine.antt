-- Tokens on one line, with one blank between two of them.
use Rattle.std.specs.Prelude.{◌≡◌, ℕ, ◌+◌, List, [], ◌∷◌, ◌++◌, length, false}
use Rattle.tu_token.specs.declared.token.Token.{Token}
use Rattle.tu_token.specs.ClassNumbers.{number, keeps_text}
use Rattle.tu_token.specs.TokenList.{TokenList}
use Rattle.tu_token.specs.Spellings.{spelling}

-- the texts of tokens, with one blank between two
abbrev pub joined : List Token → List ℕ
joined [] = []
joined (token ∷ []) = token.text
joined (token ∷ (next ∷ tokens)) = token.text ++ 32 ∷ joined (next ∷ tokens)

-- the token stands at a place of line 1, and a sign or word has its own spelling
pub record StandsAt (place : ℕ) (token : Token) : Type 0 where
  pub start : token.start ≡ place
  pub length : token.length ≡ length token.text
  pub line : token.line ≡ 1
  pub spelled : keeps_text (number token.class) ≡ false → token.text ≡ spelling (number token.class)

-- the first token stands at a place, and each further one behind a blank
abbrev pub StandFrom : ℕ → List Token → Type 0
StandFrom place [] = Unit {0}
StandFrom place (token ∷ tokens) = StandsAt place token × StandFrom (place + length token.text + 1) tokens

-- the tokens stand on line 1 as their texts with one blank between two do, and end where those do
pub record IsOnOneLine (tokens : TokenList) : Type 0 where
  pub items : StandFrom 0 tokens.items
  pub start : tokens.start ≡ length (joined tokens.items)
  pub line : tokens.line ≡ 1
