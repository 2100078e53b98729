-- Which sources are accepted, and why the others are refused: the first group with a fault, at its least place.
use Rattle.std.specs.Prelude.{◌≡◌, ℕ, ◌<◌, ◌≤◌, List, length, Some, None}
use Rattle.tu_base.specs.declared.limits.TheConstants.{MOST_SOURCE_BYTES}
use Rattle.tu_check.specs.declared.refusal.Refusal.{Refusal}
use Rattle.tu_check.specs.declared.refusal.Refusal.TheVariants.{Size, Lexical, Syntax, Scope, Types}
use Rattle.tu_check.specs.declared.refusal.TypeError.TheVariants.{NotBuilt}
use Rattle.tu_token.specs.Lexemes.{IsLexed}
use Rattle.tu_token.specs.LexFaults.{HasNoFault, IsLexFault}
use Rattle.tu_token.specs.Rules.{r-program}
use Rattle.tu_token.specs.Syntax.{Of, IsSyntaxFault}
use Rattle.tu_token.specs.TokenList.{TokenList}
use Rattle.tu_parse.specs.Parsing.{line_at, IsTreeOf}
use Rattle.tu_scope_rules.specs.declared.error.ScopeError.{ScopeError}
use Rattle.tu_scope.specs.Scoped.{scope_error}
use Rattle.tu_check.specs.Built.{unbuilt_program}

-- a source that is not too long, without a lexical fault, which are these tokens
pub record HasTokens (source : List ℕ) (tokens : TokenList) : Type 0 where
  pub size : length source ≤ MOST_SOURCE_BYTES
  pub no_fault : HasNoFault source
  pub lexed : IsLexed source tokens

-- the tokens are this tree, with their places
pub record HasTree (source : List ℕ) (tree : Of r-program) : Type 0 where
  pub tokens : TokenList
  pub spelled : HasTokens source tokens
  pub parsed : IsTreeOf tokens tree

-- the source is this tree, each name that it uses has a declaration, and all forms in it are built
pub record IsAccepted (source : List ℕ) (tree : Of r-program) : Type 0 where
  pub read : HasTree source tree
  pub scoped : scope_error tree ≡ None
  pub built : unbuilt_program tree ≡ None

-- the tokens are no tree, and the one at fault is on this line
pub record HasSyntaxFault (source : List ℕ) (line : ℕ) : Type 0 where
  pub tokens : TokenList
  pub spelled : HasTokens source tokens
  pub place : ℕ
  pub fault : IsSyntaxFault tokens place
  pub line_is : line ≡ line_at tokens place

-- the source is a tree, of whose faults of names this is the one at the least place
pub record HasScopeFault (source : List ℕ) (error : ScopeError) : Type 0 where
  pub tree : Of r-program
  pub read : HasTree source tree
  pub found : scope_error tree ≡ Some error

-- the source is a tree without faults of names, in which the first form that is not built is on this line
pub record HasUnbuilt (source : List ℕ) (line : ℕ) : Type 0 where
  pub tree : Of r-program
  pub read : HasTree source tree
  pub scoped : scope_error tree ≡ None
  pub found : unbuilt_program tree ≡ Some line

-- No other group is looked at yet.
abbrev pub IsRefused : List ℕ → Refusal → Type 0
IsRefused source Size = MOST_SOURCE_BYTES < length source
IsRefused source (Lexical error) = (length source ≤ MOST_SOURCE_BYTES) × IsLexFault source error
IsRefused source (Syntax line) = HasSyntaxFault source line
IsRefused source (Scope error) = HasScopeFault source error
IsRefused source (Types (NotBuilt line)) = HasUnbuilt source line
IsRefused source other = ⊥
