use Rattle.grammar.specs.Description.{rule}
use Rattle.tu_token.specs.Rules.{r-field, r-variant}
use Rattle.tu_tree.specs.TypeViews.{arrays, array_view}
use Rattle.tu_flatten_parts.proofs.Lists.{Turns}
use Rattle.tu_flatten_parts.proofs.types.+spec.Given as goal

abbrev pub invariant-write_spec-loop-x : goal.invariant-write_spec-loop-x
invariant-write_spec-loop-x l = Turns arrays array_view l.x-items l.x-index l.initial.out l.out

abbrev pub invariant-write_base-loop-x : goal.invariant-write_base-loop-x
invariant-write_base-loop-x l = Turns (rule r-field) (λ x. x) l.x-items l.x-index l.initial.out l.out

abbrev pub invariant-write_base-loop-x-2 : goal.invariant-write_base-loop-x-2
invariant-write_base-loop-x-2 l = Turns (rule r-variant) (λ x. x) l.x-items l.x-index l.initial.out l.out

abbrev pub invariant-write_variant-loop-x : goal.invariant-write_variant-loop-x
invariant-write_variant-loop-x l = Turns (rule r-field) (λ x. x) l.x-items l.x-index l.initial.out l.out
