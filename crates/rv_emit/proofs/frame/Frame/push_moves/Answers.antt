use Rattle.std.proofs.Common.{◌-◌, ◌∙◌, sym, append-nil, arith}
use Rattle.std.proofs.lemmas.Bool.{and_parts}
use Rattle.rv_layout.specs.Moves.{are_near}
use Rattle.rv_emit.specs.Placed.{frame_head, number_in, numbers_in}
use Rattle.rv_emit.proofs.Moving.{unmixed_end, copied, near_slot}
use Rattle.rv_emit.proofs.frame.Frame.push_moves.Goals as goal

pub loop-i-init : goal.loop-i-init
loop-i-init c = record {
  words = rw (unmixed_end (number_in c.args.self) c.args.to.now c.args.from.now c.min-i.result (omega arith)) (sym (append-nil c.args.out.now));
  within_to = omega arith;
  within_from = omega arith;
}

pub push_move-requires-clause-to : goal.push_move-requires-clause-to
push_move-requires-clause-to c = λ n.
    let h = frame_head c.args.self in
    let both = and_parts (are_near h (numbers_in c.args.self c.args.to.now)) (are_near h (numbers_in c.args.self c.args.from.now)) (sym c.requires.near ∙ n) in
    near_slot h c.args.near (number_in c.args.self) c.args.to.now c.args.from.now (c.loop-i.i - 1) c.args.to.now c.slot.result n both.0 (omega arith) c.slot.ensures.is

pub push_move-requires-clause-from : goal.push_move-requires-clause-from
push_move-requires-clause-from c = λ n.
    let h = frame_head c.args.self in
    let both = and_parts (are_near h (numbers_in c.args.self c.args.to.now)) (are_near h (numbers_in c.args.self c.args.from.now)) (sym c.requires.near ∙ n) in
    near_slot h c.args.near (number_in c.args.self) c.args.to.now c.args.from.now (c.loop-i.i - 1) c.args.from.now c.slot-in-loop-i.result n both.1 (omega arith) c.slot-in-loop-i.ensures.is

pub loop-i-preserved : goal.loop-i-preserved
loop-i-preserved c = record {
  words = copied (frame_head c.args.self) c.args.near (number_in c.args.self) c.args.to.now c.args.from.now c.loop-i.i (c.loop-i.i - 1) (omega arith) c.loop-i.out c.push_move.new.self c.args.out.now c.slot.result c.slot-in-loop-i.result
      c.requires.unmixed (omega arith) (omega arith) c.loop-i.invariant.words c.slot.ensures.is c.slot-in-loop-i.ensures.is c.in_ok-push_move.ensures;
  within_to = omega arith;
  within_from = omega arith;
}
