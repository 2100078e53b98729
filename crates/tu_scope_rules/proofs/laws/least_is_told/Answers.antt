use Rattle.tu_scope_rules.proofs.LeastLemmas.{none_least, least_is}
use Rattle.tu_scope_rules.proofs.laws.least_is_told.Goals as goal

pub returns : goal.returns
returns c = record { none = none_least; some = least_is }
