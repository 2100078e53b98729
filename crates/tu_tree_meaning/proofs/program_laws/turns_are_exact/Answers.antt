use Rattle.tu_tree_meaning.proofs.ProgramLaws.{turns_are_exact as proved}
use Rattle.tu_tree_meaning.proofs.program_laws.turns_are_exact.Goals as goal

pub returns : goal.returns
returns c = proved
