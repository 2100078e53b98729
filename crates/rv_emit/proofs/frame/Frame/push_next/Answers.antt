use Rattle.std.proofs.Common.{◌≡◌, ◌+◌, ◌-◌, ◌<◌, ℕ, List, length, map, take, drop, true, false, arith, ap, sym, ◌∙◌, subst, take_all, length-drop}
use Rattle.std.proofs.lemmas.Result.{on_ok_weaker}
use Rattle.std.proofs.lemmas.List.Elements.{All-get_or, All-push, All-same}
use Rattle.rv_layout.specs.Rooms.{slot}
use Rattle.rv_layout.specs.Moves.{is_among}
use Rattle.rv_emit.specs.declared.handing.PutOff.{PutOff}
use Rattle.rv_emit.specs.Placed.{frame_head, number_in}
use Rattle.rv_emit.specs.Mixed.{IsInReach, IsReached}
use Rattle.rv_emit.proofs.Moving.{near_at}
use Rattle.rv_emit.proofs.Mixing.{all_exchanged, next_swap, next_copy}
use Rattle.rv_emit.proofs.frame.Frame.push_next.Goals as goal

rest_of : (xs : List ℕ) (k : ℕ) → take (length xs - k) (drop k xs) ≡ drop k xs
rest_of xs k = take_all (length xs - k) (drop k xs) (omega (arith, length-drop k xs))

pub push_swap-requires-clause-to : goal.push_swap-requires-clause-to
push_swap-requires-clause-to c = λ n.
    let h = frame_head c.args.self in
    let q = near_at h (number_in c.args.self) c.args.to.now c.args.i (c.requires.near n) c.requires.to in
    subst (λ (s : ℕ). s < 2048) (sym (c.slot_at-to_slot.ensures ∙ ap (slot h) c.number-target.ensures.is)) q

pub returns-then-is_among-clause-words : goal.returns-then-is_among-clause-words
returns-then-is_among-clause-words c =
    let among : is_among (map (number_in c.args.self) (drop (c.args.i + 1) c.args.to.now)) c.index-source.result.now ≡ true =
    ap (λ xs. is_among (map (number_in c.args.self) xs) c.index-source.result.now) (sym (rest_of c.args.to.now (c.args.i + 1))) ∙ (sym c.is_among.ensures ∙ c.if-is_among.true) in
    on_ok_weaker c.push_swap.result
    (next_swap (frame_head c.args.self) c.args.near (number_in c.args.self) c.args.to.now c.args.mixed.now.rest.items c.args.i c.args.mixed.now.copies.items c.number-target.result c.index-source.result.now c.slot_at-to_slot.result c.slot_at-from_slot.result
    c.args.out.now c.push_swap.new.self c.exchange_each.new.numbers.items c.requires.to c.requires.from c.number-target.ensures.is c.index-source.ensures among c.exchange_each.ensures c.slot_at-to_slot.ensures c.slot_at-from_slot.ensures)
    c.push_swap.ensures

pub returns-then-is_among-clause-reach : goal.returns-then-is_among-clause-reach
returns-then-is_among-clause-reach c =
    let h = frame_head c.args.self in let P : ℕ → Type 0 = IsInReach h c.args.near in
    let t : P c.number-target.result = record { bound = c.number-target.ensures.bound; slot_near = λ n. subst (λ (s : ℕ). slot h s < 2048) (sym c.number-target.ensures.is) (near_at h (number_in c.args.self) c.args.to.now c.args.i (c.requires.near n) c.requires.to) } in
    let f : P c.index-source.result.now = subst P (sym c.index-source.ensures) (All-get_or P c.args.mixed.now.rest.items c.args.i c.index-source.result.now c.requires.from c.requires.reach.rest) in
    on_ok_weaker c.push_swap.result
    (λ w. record { rest = all_exchanged P c.number-target.result c.index-source.result.now c.args.mixed.now.rest.items c.exchange_each.new.numbers.items c.exchange_each.ensures t f c.requires.reach.rest; copies = c.requires.reach.copies })
    c.push_swap.ensures

pub returns-clause-words : goal.returns-clause-words
returns-clause-words c =
    let among : is_among (map (number_in c.args.self) (drop (c.args.i + 1) c.args.to.now)) c.index-source.result.now ≡ false =
    ap (λ xs. is_among (map (number_in c.args.self) xs) c.index-source.result.now) (sym (rest_of c.args.to.now (c.args.i + 1))) ∙ (sym c.is_among.ensures ∙ c.if-is_among.false) in
    next_copy (frame_head c.args.self) c.args.near (number_in c.args.self) c.args.to.now c.args.mixed.now.rest.items c.args.i c.args.mixed.now.copies.items c.number-target.result c.index-source.result.now c.slot_at-to_slot.result c.slot_at-from_slot.result
    c.args.out.now c.args.out.now c.push.new.self.items c.requires.to c.requires.from c.number-target.ensures.is c.index-source.ensures among c.slot_at-to_slot.ensures c.slot_at-from_slot.ensures c.in_ok-push.ensures.items

pub returns-clause-reach : goal.returns-clause-reach
returns-clause-reach c =
    let h = frame_head c.args.self in let P : ℕ → Type 0 = IsInReach h c.args.near in let Q : PutOff → Type 0 = IsReached c.args.near in
    let f : P c.index-source.result.now = subst P (sym c.index-source.ensures) (All-get_or P c.args.mixed.now.rest.items c.args.i c.index-source.result.now c.requires.from c.requires.reach.rest) in
    let last : Q (record { to = c.slot_at-to_slot.result; from = c.slot_at-from_slot.result }) = record {
      to = λ n. subst (λ (s : ℕ). s < 2048) (sym (c.slot_at-to_slot.ensures ∙ ap (slot h) c.number-target.ensures.is)) (near_at h (number_in c.args.self) c.args.to.now c.args.i (c.requires.near n) c.requires.to);
      from = λ n. subst (λ (s : ℕ). s < 2048) (sym c.slot_at-from_slot.ensures) (f.slot_near n);
    } in
    record {
      rest = c.requires.reach.rest;
      copies = All-same Q c.push.new.self.items _ c.in_ok-push.ensures.items (All-push Q c.args.mixed.now.copies.items _ c.requires.reach.copies last);
    }
