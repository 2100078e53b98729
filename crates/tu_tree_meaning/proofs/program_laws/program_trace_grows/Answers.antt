use Rattle.tu_tree_meaning.proofs.ProgramLaws.{trace_grows as proved}
use Rattle.tu_tree_meaning.proofs.program_laws.program_trace_grows.Goals as goal

pub returns : goal.returns
returns c = proved
