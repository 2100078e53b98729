use Rattle.tu_token.proofs.Unique.{one_first}
use Rattle.tu_token.proofs.laws.one_fault.Goals as goal

pub returns : goal.returns
returns c = one_first
