-- The tokens of a source and its end.
use Rattle.std.specs.Prelude.{ℕ, List, Option, Some, None, slice_get}
use Rattle.tu_token.specs.declared.token.Token.{Token}

pub record TokenList : Type 0 where
  pub items : List Token
  pub start : ℕ
  pub line : ℕ

abbrev pub text_in : Option Token → Option (List ℕ)
text_in None = None
text_in (Some token) = Some token.text

-- the bytes of token k, if there is one
abbrev pub text_at : List Token → ℕ → Option (List ℕ)
text_at tokens k = text_in (slice_get tokens k)
