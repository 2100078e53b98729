use Rattle.tu_token.proofs.Unique.{one_list}
use Rattle.tu_token.proofs.laws.one_token_list.Goals as goal

pub returns : goal.returns
returns c = one_list
