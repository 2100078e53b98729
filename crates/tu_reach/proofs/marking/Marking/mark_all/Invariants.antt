use Rattle.std.proofs.Common.{take}
use Rattle.tu_reach.specs.Marks.{HasMarkedAll, IsListed}
use Rattle.tu_reach.proofs.marking.Marking.mark_all.Given as goal

abbrev pub invariant-loop-text : goal.invariant-loop-text
invariant-loop-text l = record {
  marked : HasMarkedAll l.initial.self.marks.items l.initial.self.work.items l.self.marks.items l.self.work.items (take l.text-index l.texts);
  listed : IsListed l.initial.self.marks.items l.initial.self.found.items → IsListed l.self.marks.items l.self.found.items;
}
