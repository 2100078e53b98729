use Rattle.tu_flatten.proofs.Lines.{Laid}
use Rattle.tu_flatten.proofs.line.lay_out.Given as goal

abbrev pub invariant-loop-piece : goal.invariant-loop-piece
invariant-loop-piece l = Laid l.yielded l.tokens l.place
