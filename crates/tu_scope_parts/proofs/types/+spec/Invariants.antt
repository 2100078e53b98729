use Rattle.grammar.specs.Description.{rule}
use Rattle.tu_token.specs.Rules.{r-field, r-variant}
use Rattle.tu_tree.specs.TypeViews.{arrays, array_view}
use Rattle.tu_scope_rules.specs.declared.event.Context.TheVariants.{Elsewhere}
use Rattle.tu_scope_parts.proofs.Turns.{Turns}
use Rattle.tu_scope_parts.proofs.types.+spec.Given as goal

abbrev pub invariant-walk_spec-loop-x : goal.invariant-walk_spec-loop-x
invariant-walk_spec-loop-x l = Turns Elsewhere arrays array_view l.x-items l.x-index l.initial.out l.out

abbrev pub invariant-walk_base-loop-x : goal.invariant-walk_base-loop-x
invariant-walk_base-loop-x l = Turns Elsewhere (rule r-field) (λ x. x) l.x-items l.x-index l.initial.out l.out

abbrev pub invariant-walk_base-loop-x-2 : goal.invariant-walk_base-loop-x-2
invariant-walk_base-loop-x-2 l = Turns Elsewhere (rule r-variant) (λ x. x) l.x-items l.x-index l.initial.out l.out

abbrev pub invariant-walk_variant-loop-x : goal.invariant-walk_variant-loop-x
invariant-walk_variant-loop-x l = Turns Elsewhere (rule r-field) (λ x. x) l.x-items l.x-index l.initial.out l.out
