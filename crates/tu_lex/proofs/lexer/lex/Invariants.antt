use Rattle.std.proofs.Common.{◌-◌, length}
use Rattle.tu_lex.specs.Reads.{Reads}
use Rattle.tu_lex.proofs.lexer.lex.Given as goal

abbrev pub invariant-loop-progress : goal.invariant-loop-progress
invariant-loop-progress l = Reads l.bytes l.progress

abbrev pub decreases-loop-progress : goal.decreases-loop-progress
decreases-loop-progress l = length l.bytes - l.progress.place
