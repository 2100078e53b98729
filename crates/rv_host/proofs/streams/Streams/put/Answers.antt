use Rattle.std.proofs.Common.{refl, ap, sym, ◌∙◌, ◌≡◌, subst, IfOk}
use Rattle.std.specs.Prelude.{◌≢◌}
use Rattle.rv_image.specs.Streams.{Stream, Free}
use Rattle.rv_host.specs.Slots.{stream_at, put_answer, after_put}
use Rattle.rv_host.proofs.SlotLemmas.{slot_at, at_none, placed_slot, placed_none, on_ok, on_err}
use Rattle.rv_host.proofs.streams.Streams.put.Goals as goal

pub returns-in-Some-clause-answer : goal.returns-in-Some-clause-answer
returns-in-Some-clause-answer c =
    let p = c.in-Some.ensures.place in
    let P : Stream → Type 0 = λ s. IfOk c.put.result (λ answer. answer ≡ put_answer s c.args.bytes.now) in
    subst P (slot_at c.self.inside.slots _ c.in-Some.index _ _ c.self.view_is c.self.invariant p c.index-self-index.is) c.put.ensures.answer

pub returns-in-Some-clause-put : goal.returns-in-Some-clause-put
returns-in-Some-clause-put c =
    let p = c.in-Some.ensures.place in
    on_ok c.put.result (λ after.
    placed_slot c.self.inside.slots c.args.self.now c.in-Some.index c.args.number c.put.new.self (after_put (stream_at c.args.self.now c.args.number) c.args.bytes.now)
    c.self.view_is p.0
    (after ∙ ap (λ s. after_put s c.args.bytes.now) (slot_at c.self.inside.slots _ c.in-Some.index _ _ c.self.view_is c.self.invariant p c.index-self-index.is)))
    c.put.ensures.put

pub returns-in-Some-clause-open : goal.returns-in-Some-clause-open
returns-in-Some-clause-open c =
    let p = c.in-Some.ensures.place in
    let P : Stream → Type 0 = λ s. s ≢ Free in
    on_err c.put.result (λ written. subst P (slot_at c.self.inside.slots _ c.in-Some.index _ _ c.self.view_is c.self.invariant p c.index-self-index.is) written)
    c.put.ensures.open

pub returns-in-None-clause-answer : goal.returns-in-None-clause-answer
returns-in-None-clause-answer c = ap (λ s. put_answer s c.args.bytes.now) (sym (at_none c.self.inside.slots _ _ c.self.view_is c.self.invariant (c.in-None.ensures.none.0 refl)))

pub returns-in-None-clause-put : goal.returns-in-None-clause-put
returns-in-None-clause-put c = sym (placed_none c.self.inside.slots _ _ _ c.self.view_is c.self.invariant (c.in-None.ensures.none.0 refl))
