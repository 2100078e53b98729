use Rattle.std.proofs.Common.{◌≡◌, ap, ◌∙◌, arith, pos, to_z, of_z, w32, w64, int_div}
use Rattle.std.proofs.lemmas.Int.{ints}
use Rattle.tu_type_constants.proofs.Exact.{of_division, quotient_fits}
use Rattle.tu_type_constants.proofs.scalars.quotient.Goals as goal

pub returns : goal.returns
returns c =
    let a : to_z w64 (of_z w64 c.from.result) ≡ c.args.a = omega (arith, ints) in
    let b : to_z w64 (of_z w64 c.from-2.result) ≡ c.args.b = omega (arith, ints) in
    let fits = quotient_fits c.args.a c.args.b (rw c.get.ensures.value at c.get.type_inv) in
    let not_zero : c.args.b ≡ pos 0 → ⊥ = λ e. c.if-divisor-eq0.false (ap (of_z w32) (c.get-divisor.ensures.value ∙ e)) in
    of_division int_div c.args.a c.args.b c.exact.result not_zero (rw (a, b, fits) at c.exact.ensures)
