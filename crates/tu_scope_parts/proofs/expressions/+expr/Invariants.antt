use Rattle.grammar.specs.Description.{rule}
use Rattle.grammar.specs.Tree.{n-sequence, n-token}
use Rattle.tu_token.specs.declared.class.Class.TheVariants.{SignImplies, SignPower, WordAnd, WordOr, SignComma}
use Rattle.tu_token.specs.Rules.{◌⨟◌, t, r-or, r-and, r-not, r-primary, r-arg}
use Rattle.tu_expr.specs.Views.{related, related_view, signed, signed_view, multiplied, multiplied_view, bracketed, bracketed_view, steps, step_view}
use Rattle.tu_scope_parts.proofs.Turns.{Turns}
use Rattle.tu_scope_parts.proofs.expressions.+expr.Given as goal

abbrev pub invariant-walk_expr-loop-x : goal.invariant-walk_expr-loop-x
invariant-walk_expr-loop-x l = Turns l.context (t SignImplies ⨟ rule r-or) (λ x. n-sequence n-token x) l.x-items l.x-index l.initial.out l.out

abbrev pub invariant-walk_or-loop-x : goal.invariant-walk_or-loop-x
invariant-walk_or-loop-x l = Turns l.context (t WordOr ⨟ rule r-and) (λ x. n-sequence n-token x) l.x-items l.x-index l.initial.out l.out

abbrev pub invariant-walk_and-loop-x : goal.invariant-walk_and-loop-x
invariant-walk_and-loop-x l = Turns l.context (t WordAnd ⨟ rule r-not) (λ x. n-sequence n-token x) l.x-items l.x-index l.initial.out l.out

abbrev pub invariant-walk_compare-loop-x : goal.invariant-walk_compare-loop-x
invariant-walk_compare-loop-x l = Turns l.context related related_view l.x-items l.x-index l.initial.out l.out

abbrev pub invariant-walk_sum-loop-x : goal.invariant-walk_sum-loop-x
invariant-walk_sum-loop-x l = Turns l.context signed signed_view l.x-items l.x-index l.initial.out l.out

abbrev pub invariant-walk_term-loop-x : goal.invariant-walk_term-loop-x
invariant-walk_term-loop-x l = Turns l.context multiplied multiplied_view l.x-items l.x-index l.initial.out l.out

abbrev pub invariant-walk_power-loop-x : goal.invariant-walk_power-loop-x
invariant-walk_power-loop-x l = Turns l.context (t SignPower ⨟ rule r-primary) (λ x. n-sequence n-token x) l.x-items l.x-index l.initial.out l.out

abbrev pub invariant-walk_primary-loop-x : goal.invariant-walk_primary-loop-x
invariant-walk_primary-loop-x l = Turns l.context bracketed bracketed_view l.x-items l.x-index l.initial.out l.out

abbrev pub invariant-walk_path-loop-x : goal.invariant-walk_path-loop-x
invariant-walk_path-loop-x l = Turns l.context steps step_view l.steps l.x-index l.initial.out l.out

abbrev pub invariant-walk_step-loop-x : goal.invariant-walk_step-loop-x
invariant-walk_step-loop-x l = Turns l.context (t SignComma ⨟ rule r-arg) (λ x. n-sequence n-token x) l.x-items l.x-index l.initial.out l.out
