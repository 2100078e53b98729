use Rattle.std.proofs.Common.{refl, ap, sym, ◌∙◌}
use Rattle.rv_image.specs.Streams.{state}
use Rattle.rv_host.proofs.SlotLemmas.{slot_at, at_none}
use Rattle.rv_host.proofs.streams.Streams.state.Goals as goal

pub returns-in-Some : goal.returns-in-Some
returns-in-Some c =
    let p = c.in-Some.ensures.place in
    c.state.ensures ∙ ap state (slot_at c.self.inside.slots _ c.in-Some.index _ _ c.self.view_is c.self.invariant p c.index-self-index.is)

pub returns-in-None : goal.returns-in-None
returns-in-None c = ap state (sym (at_none c.self.inside.slots _ _ c.self.view_is c.self.invariant (c.in-None.ensures.none.0 refl)))
