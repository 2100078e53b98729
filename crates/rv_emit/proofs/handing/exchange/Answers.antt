use Rattle.std.proofs.Common.{arith}
use Rattle.std.proofs.lemmas.Grind.{common_steps}
use Rattle.std.proofs.lemmas.List.Edits.{map_over_more}
use Rattle.rv_layout.specs.Moves.{exchanged}
use Rattle.rv_emit.proofs.handing.exchange.Goals as goal

pub loop-number-preserved : goal.loop-number-preserved
loop-number-preserved c = grind (arith, common_steps, map_over_more (exchanged c.args.a c.args.b))
