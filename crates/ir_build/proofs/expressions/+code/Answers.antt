use Rattle.std.proofs.Common.{◌≡◌, ◌+◌, ◌*◌, ◌<◌, drop, ap, sym, ◌∙◌, rules, arith}
use Rattle.std.proofs.lemmas.Grind.{common_steps}
use Rattle.grammar.specs.Tree.{height}
use Rattle.tu_expr.specs.declared.expr.Multiplication.TheVariants.{Times}
use Rattle.tu_expr.specs.Views.{multiplied, multiplied_view, signed, signed_view}
use Rattle.ir_build.specs.Code.{made, times, code_terms, code_factors, code_prefix}
use Rattle.ir_build.proofs.Operands.{terms, factors, lies_in, terms_at, tokens_at, factors_at, factor_tokens_at}
use Rattle.ir_build.proofs.expressions.+code.Goals as goal

pub factors-loop-operator-preserved : goal.factors-loop-operator-preserved
factors-loop-operator-preserved t c =
    let k = c.args.environment.now.fixed in
    let names = c.args.environment.now.names.now in
    let line = c.args.line in
    let xs = c.as_slice-operator-items.result.now in
    let i = c.loop-operator.operator-index in
    let x = c.loop-operator-item.result in
    let so_far = made c.loop-operator.code c.loop-operator.value in
    let same : x.0 ≡ Times = first_of (search rules, grind (arith, common_steps)) in
    let operand : made c.factor-in-loop-operator.new.code c.in_ok-right.right ≡ code_prefix k names line x.1 c.loop-operator.code = c.in_ok-right.ensures.made in
    let product : made c.product.new.code c.in_ok-value-2.value ≡ times k names line so_far (made c.factor-in-loop-operator.new.code c.in_ok-right.right) =
    (λ j. made (c.in_ok-value-2.ensures.appended j) (c.in_ok-value-2.ensures.value j)) in
    record {
      rest = ap (λ v. code_factors k names line v (factors (drop (i + 1) xs))) (product ∙ ap (times k names line so_far) operand)
          ∙ (sym (factors_at k names line so_far xs i x c.loop-operator-test.true c.loop-operator-item.is same) ∙ c.loop-operator.invariant.rest);
      next = omega (arith, c.loop-operator.invariant.next, factor_tokens_at xs i x c.loop-operator-test.true c.loop-operator-item.is, c.in_ok-right.ensures.next, ap (λ z. z.next) c.in_ok-value-2.ensures.appended);
    }

pub terms-loop-sign-preserved : goal.terms-loop-sign-preserved
terms-loop-sign-preserved t c =
    let k = c.args.environment.now.fixed in
    let names = c.args.environment.now.names.now in
    let line = c.args.line in
    let xs = c.as_slice-sign-items.result.now in
    let i = c.loop-sign.sign-index in
    let x = c.loop-sign-item.result in
    let so_far = made c.loop-sign.code c.loop-sign.value in
    record {
      rest = ap (λ v. code_terms k names line v (terms (drop (i + 1) xs))) c.in_ok-value-2.ensures.made
          ∙ (sym (terms_at k names line so_far xs i x c.loop-sign-test.true c.loop-sign-item.is) ∙ c.loop-sign.invariant.rest);
      next = omega (arith, c.loop-sign.invariant.next, tokens_at xs i x c.loop-sign-test.true c.loop-sign-item.is, c.in_ok-value-2.ensures.next);
    }

pub factors-factor-requires-in-loop-operator : goal.factors-factor-requires-in-loop-operator
factors-factor-requires-in-loop-operator t c =
    let xs = c.as_slice-operator-items.result.now in
    let i = c.loop-operator.operator-index in
    let x = c.loop-operator-item.result in
    let lies = lies_in multiplied multiplied_view xs i x c.loop-operator-test.true c.loop-operator-item.is in
    let whole = ap height (sym c.term.view_is) in
    let falls : 2 * (2 * (height x.1 + 1) + 0) + 0 < t = omega (arith, c.decreases, lies, whole, ap (λ ys. height (factors ys)) c.as_slice-operator-items.ensures) in
    (falls, omega (arith, c.loop-operator.invariant.next, factor_tokens_at xs i x c.loop-operator-test.true c.loop-operator-item.is))

pub terms-further_term-requires : goal.terms-further_term-requires
terms-further_term-requires t c =
    let xs = c.as_slice-sign-items.result.now in
    let i = c.loop-sign.sign-index in
    let x = c.loop-sign-item.result in
    let lies = lies_in signed signed_view xs i x c.loop-sign-test.true c.loop-sign-item.is in
    let whole = ap height (sym c.sum.view_is) in
    let falls : 2 * (2 * (height x.1 + 1) + 0) + 1 < t = omega (arith, c.decreases, lies, whole, ap (λ ys. height (terms ys)) c.as_slice-sign-items.ensures) in
    (falls, omega (arith, c.loop-sign.invariant.next, tokens_at xs i x c.loop-sign-test.true c.loop-sign-item.is))
