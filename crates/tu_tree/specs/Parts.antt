-- Parts of trees that hold a truth value, or a list with semicolons between.
use Rattle.std.specs.Prelude.{Bool, true, false, List}
use Rattle.grammar.specs.Description.{Description}
use Rattle.grammar.specs.Tree.{n-token, n-empty, n-sequence, n-left, n-right, repeated}
use Rattle.tu_token.specs.declared.class.Class.{Class}
use Rattle.tu_token.specs.declared.class.Class.TheVariants.{SignSemicolon}
use Rattle.tu_token.specs.Rules.{Rule, ◌⨟◌, many, maybe, t}
use Rattle.tu_expr.specs.Parts.{Part}

-- a word or sign that may be there
abbrev pub flag : (c : Class) → Bool → Part (maybe (t c))
flag c true = n-left n-token
flag c false = n-right n-empty

-- a part that a semicolon may follow
abbrev pub separated : Description Rule → Description Rule
separated d = d ⨟ maybe (t SignSemicolon)

-- parts, each with whether a semicolon follows it
abbrev pub sequel : {A : Type 0} (d : Description Rule) → (A → Part d) → List (A × Bool) → Part (many (separated d))
sequel d show parts = repeated (separated d) (λ x. n-sequence (show x.0) (flag SignSemicolon x.1)) parts
