use Rattle.std.proofs.Common.{refl, ap, sym, ◌∙◌}
use Rattle.rv_host.specs.Slots.{stream_at, next_byte, after_next}
use Rattle.rv_host.proofs.SlotLemmas.{slot_at, at_none, placed_slot, placed_none}
use Rattle.rv_host.proofs.streams.Streams.next.Goals as goal

pub returns-in-Some-clause-byte : goal.returns-in-Some-clause-byte
returns-in-Some-clause-byte c =
    let p = c.in-Some.ensures.place in
    c.next.ensures.byte ∙ ap next_byte (slot_at c.self.inside.slots _ c.in-Some.index _ _ c.self.view_is c.self.invariant p c.index-self-index.is)

pub returns-in-Some-clause-left : goal.returns-in-Some-clause-left
returns-in-Some-clause-left c =
    let p = c.in-Some.ensures.place in
    placed_slot c.self.inside.slots c.args.self.now c.in-Some.index c.args.number c.next.new.self (after_next (stream_at c.args.self.now c.args.number)) c.self.view_is p.0
    (c.next.ensures.left ∙ ap after_next (slot_at c.self.inside.slots _ c.in-Some.index _ _ c.self.view_is c.self.invariant p c.index-self-index.is))

pub returns-in-None-clause-byte : goal.returns-in-None-clause-byte
returns-in-None-clause-byte c = ap next_byte (sym (at_none c.self.inside.slots _ _ c.self.view_is c.self.invariant (c.in-None.ensures.none.0 refl)))

pub returns-in-None-clause-left : goal.returns-in-None-clause-left
returns-in-None-clause-left c = sym (placed_none c.self.inside.slots _ _ _ c.self.view_is c.self.invariant (c.in-None.ensures.none.0 refl))
