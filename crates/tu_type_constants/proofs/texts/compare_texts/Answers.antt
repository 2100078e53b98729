use Rattle.std.proofs.Common.{◌∙◌}
use Rattle.tu_type_constants.proofs.Orders.{texts_compared}
use Rattle.tu_type_constants.proofs.texts.compare_texts.Goals as goal

pub returns : goal.returns
returns c = c.by_order.ensures ∙ texts_compared c.args.relation c.args.a.now c.args.b.now c.cmp.result (cc)
