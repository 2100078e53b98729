use Rattle.grammar.proofs.Places as law
use Rattle.grammar.proofs.laws.spelled_or_faulty.Goals as goal

pub returns : goal.returns
returns g c = λ body. law.spelled_or_faulty
