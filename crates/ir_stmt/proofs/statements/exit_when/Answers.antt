use Rattle.std.proofs.Common.{◌≡◌, ◌∷◌, ◌++◌, [], subst, ◌∙◌}
use Rattle.std.specs.Prelude.{OnOk}
use Rattle.ir_code.specs.Pieces.{leave, with_op}
use Rattle.ir_build.specs.Code.{where_tested, test_expr}
use Rattle.ir_stmt.specs.Made.{left_where}
use Rattle.ir_stmt.proofs.statements.exit_when.Goals as goal

pub returns-clause-code : goal.returns-clause-code
returns-clause-code c =
    let made = c.in_ok-tested.ensures.made in
    let first : c.push.new.self ≡ leave c.args.outside ∷ [] = c.in_ok-push.ensures.ok ∙ (λ j. c.new-first.ensures j ++ c.leave.ensures j ∷ []) in
    let op : c.where_tested.result ≡ where_tested (test_expr c.args.environment.now.fixed c.args.environment.now.names.now c.args.line c.args.expr.now c.args.code.now) (leave c.args.outside ∷ []) [] =
    c.where_tested.ensures c.condition.new.code ∙ (λ j. where_tested (made j) (first j) (c.new.ensures j)) in
    let same : with_op c.condition.new.code c.where_tested.result ≡ left_where c.args.environment.now.fixed c.args.environment.now.names.now c.args.outside c.args.line c.args.expr.now c.args.code.now = (λ j. with_op (made j).code (op j)) in
    subst (λ z. OnOk c.push-2.result (c.push-2.new.self ≡ z)) same c.push-2.ensures
