use Rattle.std.proofs.Common.{◌≡◌, ◌++◌, drop}
use Rattle.grammar.specs.Description.{rule}
use Rattle.tu_token.specs.declared.class.Class.TheVariants.{SignComma}
use Rattle.tu_token.specs.Rules.{r-exp}
use Rattle.tu_expr.specs.Parts.{chain}
use Rattle.tu_scope_parts.specs.Walk.{exports_more}
use Rattle.tu_scope_parts.proofs.imports.list_exports.Given as goal

abbrev pub invariant-loop-x : goal.invariant-loop-x
invariant-loop-x l = l.out ++ exports_more (chain SignComma (rule r-exp) (drop l.x-index l.more)) ≡ l.initial.out ++ exports_more (chain SignComma (rule r-exp) l.more)
