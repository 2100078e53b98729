use Rattle.std.proofs.Common.{◌≡◌, arith, ◌-ℤ◌, to_z, of_z, w64}
use Rattle.std.proofs.lemmas.Int.{ints}
use Rattle.tu_type_constants.proofs.Exact.{of_exact}
use Rattle.tu_type_constants.proofs.scalars.difference.Goals as goal

pub returns : goal.returns
returns c =
    let a : to_z w64 (of_z w64 c.from.result) ≡ c.args.a = omega (arith, ints) in
    let b : to_z w64 (of_z w64 c.from-2.result) ≡ c.args.b = omega (arith, ints) in
    let fits : to_z w64 (of_z w64 (c.args.a -ℤ c.args.b)) ≡ c.args.a -ℤ c.args.b = omega (arith, ints) in
    of_exact 0 c.exact.result (c.args.a -ℤ c.args.b) (rw (a, b, fits) at c.exact.ensures)
