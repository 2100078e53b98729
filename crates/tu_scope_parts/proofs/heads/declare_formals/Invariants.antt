use Rattle.std.proofs.Common.{◌≡◌, ◌++◌, drop}
use Rattle.grammar.specs.Description.{rule}
use Rattle.tu_token.specs.declared.class.Class.TheVariants.{SignComma}
use Rattle.tu_token.specs.Rules.{r-formal}
use Rattle.tu_expr.specs.Parts.{chain}
use Rattle.tu_scope_parts.specs.Walk.{formals_more}
use Rattle.tu_scope_parts.proofs.heads.declare_formals.Given as goal

abbrev pub invariant-loop-x : goal.invariant-loop-x
invariant-loop-x l = l.out ++ formals_more (chain SignComma (rule r-formal) (drop l.x-index l.x-items)) ≡ l.initial.out ++ formals_more (chain SignComma (rule r-formal) l.x-items)
