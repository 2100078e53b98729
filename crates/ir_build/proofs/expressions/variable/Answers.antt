use Rattle.ir_build.proofs.Operands.{steps_more}
use Rattle.ir_build.proofs.Operators.{fails}
use Rattle.ir_build.proofs.expressions.variable.Goals as goal

pub returns-then-not-is_empty-clause-made : goal.returns-then-not-is_empty-clause-made
returns-then-not-is_empty-clause-made c =
    steps_more c.args.environment.now.fixed c.args.environment.now.names.now c.args.line c.args.code.now c.args.path.now _ c.path.inside.root c.path.inside.steps c.path.view_is (fails c.is_empty.ensures.1 c.if-not-is_empty.true)
