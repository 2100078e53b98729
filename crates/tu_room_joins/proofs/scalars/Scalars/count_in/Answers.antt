use Rattle.std.proofs.Common.{ap, ◌∙◌}
use Rattle.tu_room_parts.specs.Capped.{capped}
use Rattle.tu_room_joins.specs.Flags.{hits, met}
use Rattle.tu_room_joins.proofs.Flags.{hits_are}
use Rattle.tu_room_joins.proofs.scalars.Scalars.count_in.Goals as goal

pub returns-clause-count : goal.returns-clause-count
returns-clause-count c =
    let first = c.self.inside.first in
    let list = c.args.list.now in
    c.meet-count.ensures.count
    ∙ ap (λ z. capped (hits first z list)) (c.as_mut_slice.ensures.value ∙ c.self.invariant)
    ∙ ap capped (hits_are first c.self.inside.flags.items list)
    ∙ ap (λ s. capped (met s list)) c.self.view_is
