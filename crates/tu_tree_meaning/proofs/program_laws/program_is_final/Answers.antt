use Rattle.tu_tree_meaning.proofs.ProgramLaws.{is_final as proved}
use Rattle.tu_tree_meaning.proofs.program_laws.program_is_final.Goals as goal

pub returns : goal.returns
returns c = proved
