use Rattle.std.proofs.Common.{rules, arith}
use Rattle.rv_image.proofs.RoundTrip.{found}
use Rattle.rv_image.proofs.image.image_of.Goals as goal

pub returns-clause-found : goal.returns-clause-found
returns-clause-found c = found c.args.bytes.now _ (λ i. omega (arith, c.type_inv.bytes i)) (search rules)
