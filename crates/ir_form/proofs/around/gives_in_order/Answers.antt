use Rattle.std.proofs.Common.{ap, arith}
use Rattle.ir_form.specs.Values.{given}
use Rattle.ir_form.proofs.Sights.{given_at}
use Rattle.ir_form.proofs.around.gives_in_order.Goals as goal

pub returns-then-has_in_order : goal.returns-then-has_in_order
returns-then-has_in_order c =
    let e = ap given c.index-ops-place.is in
    let h = given_at c.args.ops.now c.last_giving-place.result c.args.value c.index-ops-place.result in
    grind (arith, e, h)
