use Rattle.grammar.proofs.Places as law
use Rattle.grammar.proofs.laws.stops_at_fault.Goals as goal

pub returns : goal.returns
returns g c = λ body. law.stops_at_fault
