use Rattle.tu_value.proofs.Sums.{sum_meets, difference_meets, more_meets, less_meets}
use Rattle.tu_value.proofs.Multiplied.{product_meets}
use Rattle.tu_value.proofs.laws.operators_meet.Goals as goal

pub returns-clause-sum : goal.returns-clause-sum
returns-clause-sum c = sum_meets

pub returns-clause-difference : goal.returns-clause-difference
returns-clause-difference c = difference_meets

pub returns-clause-product : goal.returns-clause-product
returns-clause-product c = product_meets

pub returns-clause-more : goal.returns-clause-more
returns-clause-more c = more_meets

pub returns-clause-less : goal.returns-clause-less
returns-clause-less c = less_meets
