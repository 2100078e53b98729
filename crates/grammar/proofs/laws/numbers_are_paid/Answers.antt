use Rattle.grammar.proofs.Counting.{numbers_paid}
use Rattle.grammar.proofs.laws.numbers_are_paid.Goals as goal

pub returns : goal.returns
returns g c = λ body. numbers_paid
