use Rattle.ir_build.proofs.Adds.{expressions_add, conditions_add}
use Rattle.ir_build.proofs.laws.expressions_add.Goals as goal

pub returns-clause-expressions : goal.returns-clause-expressions
returns-clause-expressions c = expressions_add

pub returns-clause-conditions : goal.returns-clause-conditions
returns-clause-conditions c = conditions_add
