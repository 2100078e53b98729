use Rattle.std.proofs.Common.{◌≡◌, take}
use Rattle.rv_machine.specs.Lists.{memory_of}
use Rattle.rv_image.specs.Start.{start_memory}
use Rattle.rv_machine.proofs.load.put_text.Given as goal

abbrev pub invariant-loop-k : goal.invariant-loop-k
invariant-loop-k l = memory_of l.bytes ≡ start_memory (take l.k l.words)
