use Rattle.ir_build.proofs.Conditions.{expressions_do, conditions_do}
use Rattle.ir_build.proofs.laws.expressions_do.Goals as goal

pub returns-clause-expressions : goal.returns-clause-expressions
returns-clause-expressions c = expressions_do

pub returns-clause-conditions : goal.returns-clause-conditions
returns-clause-conditions c = conditions_do
