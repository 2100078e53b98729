-- What the faults of the parts become, and what each answer tells.
use Rattle.std.specs.Prelude.{ℕ, List}
use Rattle.tu_token.specs.declared.fault.LexError.{LexError}
use Rattle.tu_token.specs.declared.fault.LexError.TheVariants.{Memory as lex_memory}
use Rattle.tu_token.specs.declared.fault.ParseError.{ParseError}
use Rattle.tu_token.specs.declared.fault.ParseError.TheVariants.{Unexpected, Memory as parse_memory}
use Rattle.tu_check.specs.declared.refusal.Refusal.TheVariants.{Lexical, Syntax, Scope}
use Rattle.tu_scope_rules.specs.declared.error.ScopeError.{ScopeError}
use Rattle.tu_scope_rules.specs.declared.error.ScopeError.TheVariants.{Memory as scope_memory}
use Rattle.tu_check.specs.declared.error.CheckError.{CheckError}
use Rattle.tu_check.specs.declared.error.CheckError.TheVariants.{Refused, Memory}
use Rattle.tu_check.specs.Refusals.{IsRefused}

abbrev pub lexical_error : LexError → CheckError
lexical_error lex_memory = Memory
lexical_error error = Refused (Lexical error)

abbrev pub syntax_error : ParseError → CheckError
syntax_error (Unexpected token line) = Refused (Syntax line)
syntax_error parse_memory = Memory

abbrev pub error_of_names : ScopeError → CheckError
error_of_names scope_memory = Memory
error_of_names error = Refused (Scope error)

-- a refusal comes only for a source that is refused so
abbrev pub IsCause : List ℕ → CheckError → Type 0
IsCause source (Refused refusal) = IsRefused source refusal
IsCause source Memory = Unit {0}
