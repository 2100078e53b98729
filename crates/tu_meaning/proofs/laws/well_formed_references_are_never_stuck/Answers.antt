use Rattle.tu_meaning.specs.References.{Cells, by_reference, unset_cells}
use Rattle.tu_meaning.proofs.NeverStuck.{never_stuck}
use Rattle.tu_meaning.proofs.laws.well_formed_references_are_never_stuck.Goals as goal

pub returns : goal.returns
returns c program = never_stuck Cells by_reference unset_cells program
