use Rattle.tu_agree.proofs.Paid.{going_counts_all}
use Rattle.tu_agree.proofs.laws.going_counts_all.Goals as goal

pub returns : goal.returns
returns c = going_counts_all
