use Rattle.std.proofs.Common.{◌∙◌}
use Rattle.ir_stmt.proofs.Declaring.{stored_begin, stored_at}
use Rattle.ir_stmt.proofs.declarations.store_in_all.Goals as goal

pub loop-name-init : goal.loop-name-init
loop-name-init c = record {
  rest = λ k. stored_begin k c.args.names.now c.args.from c.args.listed.now _ c.listed.inside.first c.listed.inside.more c.as_slice-name-items.result.now c.as_slice.result.now c.args.code.now c.store_in.new.code
      c.listed.view_is c.as_slice-name-items.ensures c.as_slice.ensures (c.in_ok-store_in.ensures.code k);
  next = c.in_ok-store_in.ensures.next;
}

pub loop-name-preserved : goal.loop-name-preserved
loop-name-preserved c = record {
  rest = λ k. stored_at k c.args.names.now c.args.from c.as_slice-name-items.result.now c.loop-name.name-index c.name-item.result c.as_slice-in-loop-name.result.now c.loop-name.code c.store_in-in-loop-name.new.code
      c.loop-name-test.true c.name-item.is c.as_slice-in-loop-name.ensures (c.in_ok-store_in-2.ensures.code k) ∙ c.loop-name.invariant.rest k;
  next = c.in_ok-store_in-2.ensures.next ∙ c.loop-name.invariant.next;
}
