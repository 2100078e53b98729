use Rattle.std.proofs.Common.{◌≡◌, ◌++◌, drop}
use Rattle.grammar.specs.Description.{rule}
use Rattle.tu_token.specs.Rules.{r-item}
use Rattle.tu_tree.specs.Parts.{sequel}
use Rattle.tu_scope_parts.specs.Walk.{items_awaited}
use Rattle.tu_scope.proofs.programs.await_items.Given as goal

abbrev pub invariant-loop-x : goal.invariant-loop-x
invariant-loop-x l = l.out ++ items_awaited (sequel (rule r-item) (λ x. x) (drop l.x-index l.x-items)) ≡ l.initial.out ++ items_awaited (sequel (rule r-item) (λ x. x) l.x-items)
