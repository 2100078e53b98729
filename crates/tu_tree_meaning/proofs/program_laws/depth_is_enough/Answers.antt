use Rattle.tu_tree_meaning.proofs.ProgramLaws.{depth_is_enough as proved}
use Rattle.tu_tree_meaning.proofs.program_laws.depth_is_enough.Goals as goal

pub returns : goal.returns
returns c = proved
