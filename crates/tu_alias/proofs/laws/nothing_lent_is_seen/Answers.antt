use Rattle.tu_alias.proofs.Unseen.{nothing_lent_is_seen}
use Rattle.tu_alias.proofs.laws.nothing_lent_is_seen.Goals as goal

pub returns : goal.returns
returns c program = nothing_lent_is_seen program
