use Rattle.ir_build.proofs.Makes.{expressions_fit, conditions_fit}
use Rattle.ir_build.proofs.laws.expressions_fit.Goals as goal

pub returns-clause-expressions : goal.returns-clause-expressions
returns-clause-expressions c = expressions_fit

pub returns-clause-conditions : goal.returns-clause-conditions
returns-clause-conditions c = conditions_fit
