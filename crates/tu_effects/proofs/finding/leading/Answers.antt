use Rattle.std.proofs.Common.{subst}
use Rattle.tu_reach.specs.Marks.{IsFound}
use Rattle.tu_effects.proofs.Leading.{leading_are}
use Rattle.tu_effects.proofs.finding.leading.Goals as goal

pub returns : goal.returns
returns c =
    leading_are c.args.callers.now.rows c.args.texts.now c.args.question _ c.find.new.self c.in_ok-rows.ensures.added
    (subst (λ xs. IsFound c.args.callers.now.rows xs c.find.new.self) c.row.ensures.value c.in_ok-find.ensures.found)
