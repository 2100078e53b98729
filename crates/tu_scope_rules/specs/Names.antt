-- A name in a text.
use Rattle.std.specs.Prelude.{ℕ, List}

-- a name, where it begins and on which line
pub record NameAt : Type 0 where
  pub text : List ℕ
  pub start : ℕ
  pub line : ℕ
