use Rattle.std.proofs.Common.{refl, ap, sym, ◌∙◌}
use Rattle.rv_image.specs.Streams.{Free}
use Rattle.rv_host.specs.Slots.{shown}
use Rattle.rv_host.proofs.SlotLemmas.{slot_at, at_none, placed_slot, placed_none}
use Rattle.rv_host.proofs.streams.Streams.take.Goals as goal

pub returns-in-Some-clause-was : goal.returns-in-Some-clause-was
returns-in-Some-clause-was c =
    ap shown c.replace.ensures.value
    ∙ slot_at c.self.inside.slots _ c.in-Some.index _ _ c.self.view_is c.self.invariant c.in-Some.ensures.place c.index-self-index.is

pub returns-in-Some-clause-left : goal.returns-in-Some-clause-left
returns-in-Some-clause-left c =
    placed_slot c.self.inside.slots c.args.self.now c.in-Some.index c.args.number c.replace.new.dest Free c.self.view_is c.in-Some.ensures.place.0
    (ap shown c.replace.ensures.after)

pub returns-in-None-clause-was : goal.returns-in-None-clause-was
returns-in-None-clause-was c = sym (at_none c.self.inside.slots _ _ c.self.view_is c.self.invariant (c.in-None.ensures.none.0 refl))

pub returns-in-None-clause-left : goal.returns-in-None-clause-left
returns-in-None-clause-left c = sym (placed_none c.self.inside.slots _ _ Free c.self.view_is c.self.invariant (c.in-None.ensures.none.0 refl))
