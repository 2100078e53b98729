use Rattle.std.proofs.Common.{sym}
use Rattle.tu_acts.specs.ActViews.{subject_view}
use Rattle.tu_overlap.proofs.Binding.{bind_breaks}
use Rattle.tu_overlap.proofs.bound.bind_broken.Goals as goal

pub returns-clause-found : goal.returns-clause-found
returns-clause-found c = bind_breaks c.args.program.now c.args.is_var c.args.p.now (subject_view c.in-Some.x) c.args.scope.now c.scope_breaks.result (sym c.in-Some.ensures) c.scope_breaks.ensures
