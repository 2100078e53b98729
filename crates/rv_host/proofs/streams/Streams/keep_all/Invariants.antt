use Rattle.std.proofs.Common.{◌≡◌, ◌≤◌, map, take}
use Rattle.rv_image.specs.Streams.{kept}
use Rattle.rv_host.specs.Slots.{shown, with_trace}
use Rattle.rv_host.proofs.streams.Streams.keep_all.Given as goal

abbrev pub invariant-loop-stream : goal.invariant-loop-stream
invariant-loop-stream g l = record {
  so_far : g.K.Cabinet.files l.cabinet ≡ with_trace (g.K.Cabinet.files l.fn.cabinet) (kept (map shown (take l.stream-index l.stream-items)));
  later : g.K.Cabinet.faults l.fn.cabinet ≤ g.K.Cabinet.faults l.cabinet;
}
