-- Parts in a list, one after the other: the code so far, and that of those still to come.
use Rattle.std.proofs.Common.{List}
use Rattle.grammar.specs.Description.{rule}
use Rattle.tu_token.specs.declared.class.Class.TheVariants.{SignComma}
use Rattle.tu_token.specs.Rules.{r-shown, ◌⨟◌, many, t}
use Rattle.tu_token.specs.Syntax.{Of}
use Rattle.tu_expr.specs.Parts.{Part, chain}

-- parts of `put`
abbrev pub shown : List (Of r-shown) → Part (many (t SignComma ⨟ rule r-shown))
shown xs = chain SignComma (rule r-shown) xs
