use Rattle.std.proofs.Common.{◌≡◌, ◌∙◌, ap, sym, true}
use Rattle.tu_check.specs.Built.{are_times, unbuilt_term, unbuilt_prefix}
use Rattle.tu_check.proofs.Lists.{factors, found, passed, none_found, sum_first, term_first}
use Rattle.tu_check.proofs.values.+built.Goals as goal

pub unbuilt_sum-returns-in-Some-unbuilt_term : goal.unbuilt_sum-returns-in-Some-unbuilt_term
unbuilt_sum-returns-in-Some-unbuilt_term t c =
    sym (sum_first c.args.declared.now c.args.sum.now _ c.sum.inside.first c.sum.inside.more c.as_slice-term-items.result.now c.sum.view_is c.as_slice-term-items.ensures (sym c.in_default.ensures)
    ∙ found (λ x. unbuilt_term c.args.declared.now x.1) c.as_slice-term-items.result.now c.loop-term.term-index c.in-Some-unbuilt_term.line c.loop-term-item.result c.loop-term.invariant c.loop-term-test.true c.loop-term-item.is (sym c.in-Some-unbuilt_term.ensures))

pub unbuilt_sum-loop-term-preserved : goal.unbuilt_sum-loop-term-preserved
unbuilt_sum-loop-term-preserved t c =
    passed (λ x. unbuilt_term c.args.declared.now x.1) c.as_slice-term-items.result.now c.loop-term.term-index c.loop-term-item.result c.loop-term.invariant c.loop-term-test.true c.loop-term-item.is (sym c.in_default-unbuilt_term.ensures)

pub unbuilt_sum-returns : goal.unbuilt_sum-returns
unbuilt_sum-returns t c =
    sym (sum_first c.args.declared.now c.args.sum.now _ c.sum.inside.first c.sum.inside.more c.as_slice-term-items.result.now c.sum.view_is c.as_slice-term-items.ensures (sym c.in_default.ensures)
    ∙ none_found (λ x. unbuilt_term c.args.declared.now x.1) c.as_slice-term-items.result.now c.loop-term.term-index c.loop-term.invariant c.loop-term-test.false)

pub unbuilt_term-returns-in-Some-unbuilt_prefix : goal.unbuilt_term-returns-in-Some-unbuilt_prefix
unbuilt_term-returns-in-Some-unbuilt_prefix t c =
    let all : are_times (factors c.as_slice-factor-items.result.now) ≡ true = ap (λ l. are_times (factors l)) (c.as_slice-factor-items.ensures ∙ sym c.as_slice.ensures) ∙ (sym c.are_times.ensures ∙ c.if-not-are_times.false) in
    sym (term_first c.args.declared.now c.args.term.now _ c.term.inside.first c.term.inside.more c.as_slice-factor-items.result.now c.term.view_is c.as_slice-factor-items.ensures all (sym c.in_default.ensures)
    ∙ found (λ x. unbuilt_prefix c.args.declared.now x.1) c.as_slice-factor-items.result.now c.loop-factor.factor-index c.in-Some-unbuilt_prefix.line c.loop-factor-item.result c.loop-factor.invariant c.loop-factor-test.true c.loop-factor-item.is (sym c.in-Some-unbuilt_prefix.ensures))

pub unbuilt_term-loop-factor-preserved : goal.unbuilt_term-loop-factor-preserved
unbuilt_term-loop-factor-preserved t c =
    passed (λ x. unbuilt_prefix c.args.declared.now x.1) c.as_slice-factor-items.result.now c.loop-factor.factor-index c.loop-factor-item.result c.loop-factor.invariant c.loop-factor-test.true c.loop-factor-item.is (sym c.in_default-unbuilt_prefix.ensures)

pub unbuilt_term-returns : goal.unbuilt_term-returns
unbuilt_term-returns t c =
    let all : are_times (factors c.as_slice-factor-items.result.now) ≡ true = ap (λ l. are_times (factors l)) (c.as_slice-factor-items.ensures ∙ sym c.as_slice.ensures) ∙ (sym c.are_times.ensures ∙ c.if-not-are_times.false) in
    sym (term_first c.args.declared.now c.args.term.now _ c.term.inside.first c.term.inside.more c.as_slice-factor-items.result.now c.term.view_is c.as_slice-factor-items.ensures all (sym c.in_default.ensures)
    ∙ none_found (λ x. unbuilt_prefix c.args.declared.now x.1) c.as_slice-factor-items.result.now c.loop-factor.factor-index c.loop-factor.invariant c.loop-factor-test.false)
