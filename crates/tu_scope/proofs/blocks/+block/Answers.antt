use Rattle.std.proofs.Common.{rules}
use Rattle.std.proofs.lemmas.Result.{on_ok_weaker}
use Rattle.tu_tree.specs.StatementViews.{statement_view}
use Rattle.tu_scope_parts.proofs.Turns.{arm, none, of, same, turned, ◌▸◌}
use Rattle.tu_scope.specs.Statements.{IsSimple}
use Rattle.tu_scope.proofs.Arms.{all_arms}
use Rattle.tu_scope.proofs.Forms.{simple_done}
use Rattle.tu_scope.proofs.blocks.+block.Goals as goal

pub walk_statement-returns-after-loop-x : goal.walk_statement-returns-after-loop-x
walk_statement-returns-after-loop-x t c =
    let elsifs = of (turned c.loop-x.invariant c.loop-x-test.false c.as_slice-x-items.ensures) in
    on_ok_weaker c.walk_else.result
    (λ h. arm statement_view c.statement.view_is c.in-If.is (same c.get.ensures c.in_ok-walk_expr-in-If.ensures ▸ (of c.in_ok-walk_block-in-If.ensures ▸ (elsifs ▸ (of h ▸ none)))))
    c.walk_else.ensures

pub walk_statement-returns-in_ok-walk_any_invariant-in-Loop : goal.walk_statement-returns-in_ok-walk_any_invariant-in-Loop
walk_statement-returns-in_ok-walk_any_invariant-in-Loop t c =
    on_ok_weaker c.walk_block-in-Loop.result
    (λ h. arm statement_view c.statement.view_is c.in-Loop.is (of c.in_ok-walk_any_invariant-in-Loop.ensures ▸ (of h ▸ none)))
    c.walk_block-in-Loop.ensures

pub walk_statement-returns-in_ok-begin_for-in-For : goal.walk_statement-returns-in_ok-begin_for-in-For
walk_statement-returns-in_ok-begin_for-in-For t c =
    on_ok_weaker c.walk_block-in-For.result
    (λ h. arm statement_view c.statement.view_is c.in-For.is (of c.in_ok-walk_range-in-For.ensures ▸ c.in_ok-begin_for-in-For.ensures ▸ of h))
    c.walk_block-in-For.ensures

pub walk_statement-returns-after-loop-x-2 : goal.walk_statement-returns-after-loop-x-2
walk_statement-returns-after-loop-x-2 t c =
    on_ok_weaker c.walk_last_arm.result
    (λ h.
    let arms = all_arms c.in-Case.otherwise c.loop-x-2.invariant c.loop-x-2-test.false c.as_slice-x-items-in-Case.ensures h in
    arm statement_view c.statement.view_is c.in-Case.is (same c.get-in-Case.ensures c.in_ok-walk_expr-in-Case.ensures ▸ (arms ▸ none)))
    c.walk_last_arm.ensures

pub walk_statement-returns-in-Begin : goal.walk_statement-returns-in-Begin
walk_statement-returns-in-Begin t c =
    on_ok_weaker c.walk_block-in-Begin.result (λ h. arm statement_view c.statement.view_is c.in-Begin.is (of h ▸ none)) c.walk_block-in-Begin.ensures

pub walk_statement-returns-in_default : goal.walk_statement-returns-in_default
walk_statement-returns-in_default t c =
    let simple : IsSimple c.statement.inside.form = search rules in
    on_ok_weaker c.walk_simple.result (simple_done c.statement.inside.form c.statement.view_is simple) c.walk_simple.ensures
