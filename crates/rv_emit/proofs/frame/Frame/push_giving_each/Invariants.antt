use Rattle.std.proofs.Common.{◌≡◌, ◌++◌, drop}
use Rattle.rv_runs.specs.Stands.{codes_of}
use Rattle.rv_layout.specs.Calling.{giving_each}
use Rattle.rv_emit.specs.Placed.{frame_head, numbers_in}
use Rattle.rv_emit.proofs.frame.Frame.push_giving_each.Given as goal

abbrev pub invariant-loop-value : goal.invariant-loop-value
invariant-loop-value l = l.out ++ codes_of (giving_each (frame_head l.self) (numbers_in l.self (drop l.value-index l.values))) ≡ l.fn.out ++ codes_of (giving_each (frame_head l.self) (numbers_in l.self l.values))
