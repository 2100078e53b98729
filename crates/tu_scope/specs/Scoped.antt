-- The fault of names that a tree is refused for.
use Rattle.std.specs.Prelude.{Option}
use Rattle.tu_token.specs.Rules.{r-program}
use Rattle.tu_token.specs.Syntax.{Of}
use Rattle.tu_scope_rules.specs.declared.event.Context.TheVariants.{Elsewhere}
use Rattle.tu_scope_rules.specs.declared.error.ScopeError.{ScopeError}
use Rattle.tu_scope_rules.specs.Answers.{told}
use Rattle.tu_scope_parts.specs.Walk.{events}

-- that of its events, if there is one
abbrev pub scope_error : Of r-program → Option ScopeError
scope_error tree = told (events Elsewhere tree)
