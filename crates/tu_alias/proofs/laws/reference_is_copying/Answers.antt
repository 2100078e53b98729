use Rattle.tu_alias.proofs.Meanings.{reference_is_copying}
use Rattle.tu_alias.proofs.laws.reference_is_copying.Goals as goal

pub returns : goal.returns
returns c program = reference_is_copying program
