use Rattle.tu_meaning.specs.Store.{Store, by_copying, unset_store}
use Rattle.tu_meaning.proofs.ProgramLaws.{keeps_turns}
use Rattle.tu_meaning.proofs.laws.meaning_keeps_turns.Goals as goal

pub returns : goal.returns
returns c program = keeps_turns Store by_copying unset_store program
