use Rattle.tu_scope_rules.specs.Search.{predefined}
use Rattle.tu_scope_rules.proofs.search.is_predefined.Goals as goal

pub returns : goal.returns
unfolding predefined
returns c = c.is_among.ensures
