use Rattle.tu_alias.proofs.Unreached.{lent_is_unreached}
use Rattle.tu_alias.proofs.laws.lent_is_unreached.Goals as goal

pub returns : goal.returns
returns c program = lent_is_unreached program
