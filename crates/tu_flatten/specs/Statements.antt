-- Statements without blocks, and the arms of a `case`.
use Rattle.grammar.specs.Description.{Description, rule}
use Rattle.grammar.specs.Tree.{n-token, n-sequence}
use Rattle.tu_token.specs.declared.class.Class.TheVariants.{SignColon, WordLabel}
use Rattle.tu_token.specs.Rules.{Rule, ◌⨟◌, t, listed, r-block, r-expr}
use Rattle.tu_tree.specs.declared.statement.Arm.{Arm}
use Rattle.tu_tree.specs.declared.statement.StatementForm.{StatementForm}
use Rattle.tu_tree.specs.declared.statement.StatementForm.TheVariants as statement
use Rattle.tu_expr.specs.Parts.{Part, listing}

-- a statement without blocks
abbrev pub IsSimple : StatementForm → Type 0
IsSimple (statement.If condition block elsifs otherwise) = ⊥
IsSimple (statement.Loop invariant block) = ⊥
IsSimple (statement.For is_decreasing name range invariant block) = ⊥
IsSimple (statement.Case subject arms otherwise) = ⊥
IsSimple (statement.Begin block) = ⊥
IsSimple form = Unit {0}

-- an arm of a `case` without the arms behind it
abbrev pub labelled : Description Rule
labelled = t WordLabel ⨟ listed r-expr ⨟ t SignColon ⨟ rule r-block

abbrev pub labelled_view : Arm → Part labelled
labelled_view arm = n-sequence n-token (n-sequence (listing r-expr arm.first arm.more) (n-sequence n-token arm.block))
