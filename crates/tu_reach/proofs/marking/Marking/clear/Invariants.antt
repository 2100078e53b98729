use Rattle.std.proofs.Common.{◌≡◌, length}
use Rattle.tu_reach.specs.Marks.{IsListed}
use Rattle.tu_reach.proofs.marking.Marking.clear.Given as goal

abbrev pub invariant-loop-text : goal.invariant-loop-text
invariant-loop-text l = record {
  same : length l.self.marks.items ≡ length l.initial.self.marks.items;
  listed : IsListed l.self.marks.items l.self.found.items;
}

abbrev pub decreases-loop-text : goal.decreases-loop-text
decreases-loop-text l = length l.self.found.items
