-- Values, and the places where they stand.
use Rattle.std.specs.Prelude.{ℕ, Bool, List, ℤ, Option, Some, None}
use Rattle.tu_token.specs.declared.class.Class.TheVariants.{Name}
use Rattle.tu_token.specs.Rules.{t}
use Rattle.tu_expr.specs.Parts.{Part, text_of}

-- what an expression gives and a variable holds
pub data Value : Type 0 where
  -- nothing was stored since the variable was declared
  Unset : Value
  Int : ℤ → Value
  Truth : Bool → Value

-- what is read as an int; all else is unset there
abbrev pub int_in : Value → Option ℤ
int_in Unset = None
int_in (Int z) = Some z
int_in (Truth b) = None

-- a variable, by the bytes of its name
abbrev pub Variable : Type 0
Variable = List ℕ

-- the variable that a name stands for: there is one scope, so the name tells
abbrev pub variable_of : Part (t Name) → Variable
variable_of name = text_of name

-- what a path begins with: a variable of the program
pub data Root : Type 0 where
  Global : Variable → Root

-- what a path names: what stands at its root
pub record Place : Type 0 where
  pub root : Root

-- the place of a variable
abbrev pub place_of : Variable → Place
place_of x = record { root = Global x }
