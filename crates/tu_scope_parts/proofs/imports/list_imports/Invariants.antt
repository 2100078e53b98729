use Rattle.std.proofs.Common.{◌≡◌, ◌++◌, drop}
use Rattle.grammar.specs.Description.{rule}
use Rattle.tu_token.specs.declared.class.Class.TheVariants.{SignComma}
use Rattle.tu_token.specs.Rules.{r-imp}
use Rattle.tu_expr.specs.Parts.{chain}
use Rattle.tu_scope_parts.specs.Walk.{imports_more}
use Rattle.tu_scope_parts.proofs.imports.list_imports.Given as goal

abbrev pub invariant-loop-x : goal.invariant-loop-x
invariant-loop-x l = l.out ++ imports_more l.scope (chain SignComma (rule r-imp) (drop l.x-index l.more)) ≡ l.initial.out ++ imports_more l.scope (chain SignComma (rule r-imp) l.more)
