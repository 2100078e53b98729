use Rattle.grammar.proofs.Places.{place_is_one, not_spelled}
use Rattle.grammar.proofs.laws.one_fault.Goals as goal

pub returns-clause-place : goal.returns-clause-place
returns-clause-place g c = place_is_one

pub returns-clause-no_print : goal.returns-clause-no_print
returns-clause-no_print g c = not_spelled
