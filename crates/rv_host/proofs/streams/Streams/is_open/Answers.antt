use Rattle.std.proofs.Common.{ap, ◌∙◌}
use Rattle.std.specs.List.{list_any}
use Rattle.rv_image.specs.Streams.{is_named}
use Rattle.rv_host.proofs.SlotLemmas.{any_slot}
use Rattle.rv_host.proofs.streams.Streams.is_open.Goals as goal

pub returns : goal.returns
returns c = c.is_any_named.ensures ∙ any_slot c.args.name.now c.self.inside.slots ∙ ap (list_any (is_named c.args.name.now)) c.self.view_is
