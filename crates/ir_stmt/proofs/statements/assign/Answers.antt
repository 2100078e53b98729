use Rattle.std.proofs.Common.{◌≡◌, ap, subst, ◌∙◌}
use Rattle.std.specs.Prelude.{OnOk}
use Rattle.ir_build.proofs.Operators.{fails}
use Rattle.ir_build.specs.Code.{made, named}
use Rattle.ir_stmt.specs.Code.{stored}
use Rattle.ir_stmt.specs.Made.{assigned}
use Rattle.ir_stmt.proofs.Assigning.{steps_more, root_alone}
use Rattle.ir_stmt.proofs.statements.assign.Goals as goal

pub returns-then-not-is_empty-clause-code : goal.returns-then-not-is_empty-clause-code
returns-then-not-is_empty-clause-code c =
    steps_more c.args.environment.now.fixed c.args.environment.now.names.now c.args.line c.args.path.now _ c.path.inside.root c.path.inside.steps c.args.value.now c.args.code.now c.path.view_is (fails c.is_empty.ensures.1 c.if-not-is_empty.true)

pub returns-clause-code : goal.returns-clause-code
returns-clause-code c =
    let x = made c.expression.new.code c.in_ok-from.from in
    let same : stored c.args.environment.now.fixed c.args.environment.now.names.now x.code (named c.as_slice.result.now c.args.environment.now.names.now) x.value ≡ assigned c.args.environment.now.fixed c.args.environment.now.names.now c.args.line c.args.path.now c.args.value.now c.args.code.now =
    ap (λ name. stored c.args.environment.now.fixed c.args.environment.now.names.now x.code (named name c.args.environment.now.names.now) x.value) c.as_slice.ensures
    ∙ root_alone c.args.environment.now.fixed c.args.environment.now.names.now c.args.line c.args.path.now _ c.path.inside.root c.path.inside.steps c.args.value.now c.args.code.now x c.path.view_is (c.is_empty.ensures.0 c.if-not-is_empty.false) c.in_ok-from.ensures.made in
    subst (λ z. OnOk c.store_in.result (c.store_in.new.code ≡ z)) same (c.store_in.ensures.code c.args.environment.now.fixed)
