-- What the parts of statements do with names.
use Rattle.std.specs.Prelude.{List}
use Rattle.tu_token.specs.Rules.{r-block}
use Rattle.tu_token.specs.Syntax.{Of}
use Rattle.tu_tree.specs.Forms.{Block}
use Rattle.tu_tree.specs.declared.statement.StatementForm.{StatementForm}
use Rattle.tu_tree.specs.declared.statement.StatementForm.TheVariants as statement
use Rattle.tu_scope_rules.specs.declared.event.Context.TheVariants.{Elsewhere}
use Rattle.tu_scope_rules.specs.declared.event.Event.{Event}
use Rattle.tu_scope_parts.specs.Walk.{events}

-- a statement without blocks
abbrev pub IsSimple : StatementForm → Type 0
IsSimple (statement.If condition block elsifs otherwise) = ⊥
IsSimple (statement.Loop invariant block) = ⊥
IsSimple (statement.For is_decreasing name range invariant block) = ⊥
IsSimple (statement.Case subject arms otherwise) = ⊥
IsSimple (statement.Begin block) = ⊥
IsSimple form = Unit {0}

-- what stands in a block, without its scope
abbrev pub within : Of r-block → List Event
within (Block m parts) = events Elsewhere parts
