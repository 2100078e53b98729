use Rattle.std.proofs.Common.{ℕ, replicate}
use Rattle.grammar.specs.Description.{rule}
use Rattle.grammar.specs.Tree.{n-sequence, n-token}
use Rattle.tu_token.specs.declared.class.Class.TheVariants.{SignImplies, SignPower, WordAnd, WordNot, WordOr}
use Rattle.tu_token.specs.Rules.{◌⨟◌, t, r-or, r-and, r-not, r-primary, r-arg}
use Rattle.tu_expr.specs.Views.{related, related_view, signed, signed_view, multiplied, multiplied_view, signs, sign_view, bracketed, bracketed_view, steps, step_view}
use Rattle.tu_flatten_parts.proofs.Lists.{Turns, Listed}
use Rattle.tu_flatten_parts.proofs.expressions.+expr.Given as goal

abbrev pub invariant-write_expr-loop-x : goal.invariant-write_expr-loop-x
invariant-write_expr-loop-x l = Turns (t SignImplies ⨟ rule r-or) (λ x. n-sequence n-token x) l.x-items l.x-index l.initial.out l.out

abbrev pub invariant-write_or-loop-x : goal.invariant-write_or-loop-x
invariant-write_or-loop-x l = Turns (t WordOr ⨟ rule r-and) (λ x. n-sequence n-token x) l.x-items l.x-index l.initial.out l.out

abbrev pub invariant-write_and-loop-x : goal.invariant-write_and-loop-x
invariant-write_and-loop-x l = Turns (t WordAnd ⨟ rule r-not) (λ x. n-sequence n-token x) l.x-items l.x-index l.initial.out l.out

abbrev pub invariant-write_compare-loop-x : goal.invariant-write_compare-loop-x
invariant-write_compare-loop-x l = Turns related related_view l.x-items l.x-index l.initial.out l.out

abbrev pub invariant-write_sum-loop-x : goal.invariant-write_sum-loop-x
invariant-write_sum-loop-x l = Turns signed signed_view l.x-items l.x-index l.initial.out l.out

abbrev pub invariant-write_term-loop-x : goal.invariant-write_term-loop-x
invariant-write_term-loop-x l = Turns multiplied multiplied_view l.x-items l.x-index l.initial.out l.out

abbrev pub invariant-write_prefix-loop-x : goal.invariant-write_prefix-loop-x
invariant-write_prefix-loop-x l = Turns signs sign_view l.x-items l.x-index l.initial.out l.out

abbrev pub invariant-write_power-loop-x : goal.invariant-write_power-loop-x
invariant-write_power-loop-x l = Turns (t SignPower ⨟ rule r-primary) (λ x. n-sequence n-token x) l.x-items l.x-index l.initial.out l.out

abbrev pub invariant-write_primary-loop-x : goal.invariant-write_primary-loop-x
invariant-write_primary-loop-x l = Turns bracketed bracketed_view l.x-items l.x-index l.initial.out l.out

abbrev pub invariant-write_path-loop-x : goal.invariant-write_path-loop-x
invariant-write_path-loop-x l = Turns steps step_view l.x-items l.x-index l.initial.out l.out

abbrev pub invariant-write_not-loop : goal.invariant-write_not-loop
invariant-write_not-loop l = Turns {A = ℕ} (t WordNot) (λ x. n-token) (replicate l.end 0) l.counter l.initial.out l.out

abbrev pub invariant-write_step-loop-i : goal.invariant-write_step-loop-i
invariant-write_step-loop-i l = Listed r-arg l.x-items l.i l.initial.out l.out
