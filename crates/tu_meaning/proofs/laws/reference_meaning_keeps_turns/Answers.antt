use Rattle.tu_meaning.specs.References.{Cells, by_reference, unset_cells}
use Rattle.tu_meaning.proofs.ProgramLaws.{keeps_turns}
use Rattle.tu_meaning.proofs.laws.reference_meaning_keeps_turns.Goals as goal

pub returns : goal.returns
returns c program = keeps_turns Cells by_reference unset_cells program
