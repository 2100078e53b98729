use Rattle.std.proofs.Common.{◌≡◌, ℕ, List, take, get_or, sym, subst, ◌∙◌, arith, take_all}
use Rattle.std.proofs.lemmas.List.{take_more}
use Rattle.rv_flat.specs.Parts.{linear_numbers}
use Rattle.rv_alloc.proofs.Slotting.{Slotted, slotted_more, slotted_slots}
use Rattle.rv_alloc.proofs.slots.slotted_routine.Goals as goal

pub loop-value-preserved : goal.loop-value-preserved
loop-value-preserved c =
    let items = c.deref-value-items.result.now in let i = c.loop-value.value-index in
    record {
      numbers = c.loop-value.invariant.numbers;
      slotted = subst (λ (seen : List ℕ). Slotted seen c.give_slot.new.self) (sym (take_more items i 0 (omega arith)))
          (slotted_more (take i items) c.loop-value.places c.give_slot.new.self (get_or items i 0) c.loop-value.invariant.slotted c.in_ok-give_slot.ensures);
    }

pub returns-clause-slots : goal.returns-clause-slots
returns-clause-slots c =
    let whole : take c.loop-value.value-index c.deref-value-items.result.now ≡ linear_numbers c.args.r.now = take_all c.loop-value.value-index c.deref-value-items.result.now (omega arith) ∙ c.loop-value.invariant.numbers in
    slotted_slots c.args.r.now c.loop-value.places (subst (λ (seen : List ℕ). Slotted seen c.loop-value.places) whole c.loop-value.invariant.slotted)
