use Rattle.std.proofs.Common.{◌≡◌, ◌+◌, map, drop}
use Rattle.rv_image.specs.Streams.{free_stream}
use Rattle.rv_host.specs.Slots.{shown}
use Rattle.rv_host.proofs.streams.Streams.least_free.Given as goal

abbrev pub invariant-loop-index : goal.invariant-loop-index
invariant-loop-index l = free_stream l.fn.self 1 ≡ free_stream (map shown (drop l.index l.stream-items)) (l.index + 1)
