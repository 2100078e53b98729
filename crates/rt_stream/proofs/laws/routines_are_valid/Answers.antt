use Rattle.rt_stream.proofs.Valid.{are_valid, are_unguarded, are_light}
use Rattle.rt_stream.proofs.laws.routines_are_valid.Goals as goal

pub returns-clause-valid : goal.returns-clause-valid
returns-clause-valid c = are_valid

pub returns-clause-unguarded : goal.returns-clause-unguarded
returns-clause-unguarded c = are_unguarded

pub returns-clause-weight : goal.returns-clause-weight
returns-clause-weight c = are_light
