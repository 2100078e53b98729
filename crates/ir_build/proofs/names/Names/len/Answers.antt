use Rattle.std.proofs.Common.{[], length, ap, arith}
use Rattle.ir_build.proofs.Entries.{length_newest}
use Rattle.ir_build.proofs.names.Names.len.Goals as goal

pub returns : goal.returns
returns c = omega (arith, c.len.ensures.len, length_newest (λ k. k.items) [] c.self.inside.values.entries, ap length c.self.view_is)
