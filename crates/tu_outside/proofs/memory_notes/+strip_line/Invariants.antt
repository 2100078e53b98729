use Rattle.std.proofs.Common.{length}
use Rattle.tu_outside.proofs.memory_notes.+strip_line.Given as goal

abbrev pub decreases-strip_line : goal.decreases-strip_line
decreases-strip_line l = length l.text.now
