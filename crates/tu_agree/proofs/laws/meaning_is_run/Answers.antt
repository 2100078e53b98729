use Rattle.tu_agree.proofs.Ends.{meaning_is_run}
use Rattle.tu_agree.proofs.laws.meaning_is_run.Goals as goal

pub returns : goal.returns
returns c = meaning_is_run
