use Rattle.grammar.proofs.Standing as law
use Rattle.grammar.proofs.laws.marked_again.Goals as goal

pub returns : goal.returns
returns g c = λ body. law.marked_again
