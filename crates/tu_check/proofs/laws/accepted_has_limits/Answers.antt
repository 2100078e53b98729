use Rattle.tu_check.proofs.Limits.{accepted_has_limits}
use Rattle.tu_check.proofs.laws.accepted_has_limits.Goals as goal

pub returns : goal.returns
returns c = accepted_has_limits c.tokens_within_limits.ensures
