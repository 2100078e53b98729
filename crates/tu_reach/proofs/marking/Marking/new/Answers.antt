use Rattle.std.proofs.Common.{subst, sym}
use Rattle.tu_reach.specs.Marks.{IsUnmarked}
use Rattle.tu_reach.proofs.Searching.{unmarked_new}
use Rattle.tu_reach.proofs.marking.Marking.new.Goals as goal

pub returns-clause-none : goal.returns-clause-none
returns-clause-none c = subst IsUnmarked (sym c.loop-text.invariant) (unmarked_new c.loop-text._text)
