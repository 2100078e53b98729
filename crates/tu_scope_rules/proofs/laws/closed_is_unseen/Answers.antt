use Rattle.tu_scope_rules.proofs.Closed.{closed_is_unseen}
use Rattle.tu_scope_rules.proofs.laws.closed_is_unseen.Goals as goal

pub returns : goal.returns
returns c = closed_is_unseen
