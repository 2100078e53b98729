use Rattle.std.proofs.Common.{◌≡◌, false, replicate}
use Rattle.tu_reach.proofs.marking.Marking.new.Given as goal

abbrev pub invariant-loop-text : goal.invariant-loop-text
invariant-loop-text l = l.marks.items ≡ replicate l._text false
