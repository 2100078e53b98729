use Rattle.std.proofs.Common.{rules, arith, ◌≡◌}
use Rattle.std.proofs.lemmas.Grind.{common_steps}
use Rattle.tu_reach.specs.Rows.{row}
use Rattle.tu_reach.proofs.Rowing.{below_view}
use Rattle.tu_reach.proofs.rows.Rows.row.Goals as goal

pub returns-in-Some-clause-below : goal.returns-in-Some-clause-below
returns-in-Some-clause-below c =
    let is : c.as_slice.result.now ≡ row c.args.self.now.rows c.args.number = first_of (search rules, grind (arith, common_steps)) in
    below_view c.args.self.now c.self.inside.rows.items c.self.inside.texts c.self.view_is c.self.invariant c.args.number c.as_slice.result.now is
