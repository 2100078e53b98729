use Rattle.tu_tree_meaning.proofs.ProgramLaws.{units_grow as proved}
use Rattle.tu_tree_meaning.proofs.program_laws.program_units_grow.Goals as goal

pub returns : goal.returns
returns c = proved
