use Rattle.std.proofs.Common.{length}
use Rattle.tu_outside.proofs.memory_notes.+are_cells_of.Given as goal

abbrev pub decreases-are_cells_of : goal.decreases-are_cells_of
decreases-are_cells_of l = length l.lines.now
