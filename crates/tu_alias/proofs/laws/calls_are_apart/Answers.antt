use Rattle.tu_alias.proofs.Meanings.{calls_are_apart}
use Rattle.tu_alias.proofs.laws.calls_are_apart.Goals as goal

pub returns : goal.returns
returns c program = calls_are_apart program
