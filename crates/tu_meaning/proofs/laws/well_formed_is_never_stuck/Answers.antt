use Rattle.tu_meaning.specs.Store.{Store, by_copying, unset_store}
use Rattle.tu_meaning.proofs.NeverStuck.{never_stuck}
use Rattle.tu_meaning.proofs.laws.well_formed_is_never_stuck.Goals as goal

pub returns : goal.returns
returns c program = never_stuck Store by_copying unset_store program
