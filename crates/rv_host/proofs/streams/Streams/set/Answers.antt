use Rattle.std.proofs.Common.{refl, arith}
use Rattle.rv_host.proofs.SlotLemmas.{placed_slot}
use Rattle.rv_host.proofs.streams.Streams.set.Goals as goal

pub returns : goal.returns
returns c = placed_slot c.self.inside.slots c.args.self.now _ c.args.number c.args.stream _ c.self.view_is (omega arith) refl
