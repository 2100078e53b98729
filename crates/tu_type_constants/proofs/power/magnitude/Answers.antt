use Rattle.std.proofs.Common.{◌≡◌, ◌*◌, ◌+◌, ◌^◌, ap, sym, ◌∙◌, arith, pos, to_z, w32, Some}
use Rattle.std.proofs.lemmas.Int.{ints}
use Rattle.std.proofs.lemmas.Grind.{pow_more}
use Rattle.tu_type_constants.proofs.Growing.{of_small, stays_above}
use Rattle.tu_type_constants.proofs.power.magnitude.Goals as goal

pub returns-then-base-le1 : goal.returns-then-base-le1
returns-then-base-le1 c =
    let e : to_z w32 c.args.base ≡ pos c.args.base = omega (arith, ints) in
    ap Some e ∙ of_small c.args.base c.args.exponent (omega arith) (omega arith)

pub returns-then-product-from : goal.returns-then-product-from
returns-then-product-from c =
    let step : c.loop-round.product * c.args.base ≡ c.args.base ^ (c.loop-round._round + 1) = rw c.loop-round.invariant.0 (sym (pow_more c.args.base c.loop-round._round)) in
    let passed = rw (c.from-product.ensures, c.from.ensures) at c.if-product-from.true in
    stays_above c.args.base (c.loop-round._round + 1) c.args.exponent (omega arith) (omega arith) (omega (arith, step, passed))
