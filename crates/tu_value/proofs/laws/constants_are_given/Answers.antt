use Rattle.tu_value.proofs.Leaves.{fixed_are_given, literal_meets}
use Rattle.tu_value.proofs.laws.constants_are_given.Goals as goal

pub returns-clause-fixed : goal.returns-clause-fixed
returns-clause-fixed c = fixed_are_given

pub returns-clause-literal : goal.returns-clause-literal
returns-clause-literal c = literal_meets
