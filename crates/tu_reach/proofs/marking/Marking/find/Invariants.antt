use Rattle.std.proofs.Common.{◌≡◌, ◌+◌, length}
use Rattle.tu_reach.specs.Marks.{unmarked, IsListed, IsSearch}
use Rattle.tu_reach.proofs.marking.Marking.find.Given as goal

abbrev pub invariant-loop-text : goal.invariant-loop-text
invariant-loop-text l = record {
  same : length l.self.marks.items ≡ length l.fn.self.marks.items;
  search : IsSearch l.calls.rows l.texts l.self.marks.items l.self.work.items;
  listed : IsListed l.self.marks.items l.self.found.items;
}

abbrev pub decreases-loop-text : goal.decreases-loop-text
decreases-loop-text l = unmarked l.self.marks.items + length l.self.work.items
