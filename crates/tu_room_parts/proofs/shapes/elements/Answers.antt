use Rattle.std.proofs.Common.{◌*◌, ap, ◌∙◌}
use Rattle.tu_room_parts.specs.Capped.{capped}
use Rattle.tu_room_parts.proofs.Known.{multiplied_one, multiplied_more, multiplied_all}
use Rattle.tu_room_parts.proofs.shapes.elements.Goals as goal

pub loop-s-init : goal.loop-s-init
loop-s-init c = multiplied_one c.args.indexes.now

pub loop-s-preserved : goal.loop-s-preserved
loop-s-preserved c = multiplied_more c.args.indexes.now c.loop-s.s-index c.loop-s.product c.times-product.result _ c.loop-s.invariant c.loop-s-test.true (c.times-product.ensures ∙ ap (λ n. capped (c.loop-s.product * n)) c.span_length.ensures)

pub returns : goal.returns
returns c = multiplied_all c.args.indexes.now c.loop-s.s-index c.loop-s.product c.loop-s.invariant c.loop-s-test.false
