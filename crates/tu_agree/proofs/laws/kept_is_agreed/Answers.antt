use Rattle.tu_agree.proofs.Whole.{kept_is_agreed}
use Rattle.tu_agree.proofs.laws.kept_is_agreed.Goals as goal

pub returns : goal.returns
returns c = kept_is_agreed
