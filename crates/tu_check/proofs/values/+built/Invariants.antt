use Rattle.std.proofs.Common.{◌≡◌, drop}
use Rattle.tu_check.specs.Built.{unbuilt_term, unbuilt_prefix}
use Rattle.tu_check.proofs.Lists.{first_of}
use Rattle.tu_check.proofs.values.+built.Given as goal

abbrev pub invariant-unbuilt_sum-loop-term : goal.invariant-unbuilt_sum-loop-term
invariant-unbuilt_sum-loop-term l = first_of (λ x. unbuilt_term l.declared x.1) (drop l.term-index l.term-items) ≡ first_of (λ x. unbuilt_term l.declared x.1) l.term-items

abbrev pub invariant-unbuilt_term-loop-factor : goal.invariant-unbuilt_term-loop-factor
invariant-unbuilt_term-loop-factor l = first_of (λ x. unbuilt_prefix l.declared x.1) (drop l.factor-index l.factor-items) ≡ first_of (λ x. unbuilt_prefix l.declared x.1) l.factor-items
