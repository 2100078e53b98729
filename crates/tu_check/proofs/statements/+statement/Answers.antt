use Rattle.std.proofs.Common.{◌≡◌, sym, ap, ◌∙◌}
use Rattle.std.specs.Prelude.{None}
use Rattle.tu_tree.specs.declared.statement.StatementForm.TheVariants as statement
use Rattle.tu_tree.specs.StatementViews.{block_part_view, else_view}
use Rattle.tu_check.specs.Built.{unbuilt_condition, unbuilt_else, unbuilt_elsif, unbuilt_part}
use Rattle.tu_check.proofs.Lists.{both_or, found, none_found}
use Rattle.tu_check.proofs.Bodies.{block_says, unbuilt_head, head_found, elsif_found, else_says, loop_says, loop_with_invariant, other_says}
use Rattle.tu_check.proofs.statements.+statement.Goals as goal

pub unbuilt_block-returns-in-Some : goal.unbuilt_block-returns-in-Some
unbuilt_block-returns-in-Some t c =
    sym (block_says c.args.declared.now c.args.is_inside c.args.block.now _ c.block.inside.parts c.as_slice-part-items.result.now c.block.view_is c.as_slice-part-items.ensures
    ∙ found (λ x. unbuilt_part c.args.declared.now c.args.is_inside (block_part_view x.0)) c.as_slice-part-items.result.now c.loop-part.part-index c.in-Some.line c.loop-part-item.result c.loop-part.invariant c.loop-part-test.true c.loop-part-item.is (sym c.in-Some.ensures))

pub unbuilt_block-returns : goal.unbuilt_block-returns
unbuilt_block-returns t c =
    sym (block_says c.args.declared.now c.args.is_inside c.args.block.now _ c.block.inside.parts c.as_slice-part-items.result.now c.block.view_is c.as_slice-part-items.ensures
    ∙ none_found (λ x. unbuilt_part c.args.declared.now c.args.is_inside (block_part_view x.0)) c.as_slice-part-items.result.now c.loop-part.part-index c.loop-part.invariant c.loop-part-test.false)

pub unbuilt_statement-returns-in-Some : goal.unbuilt_statement-returns-in-Some
unbuilt_statement-returns-in-Some t c =
    sym (head_found c.args.declared.now c.args.is_inside c.args.statement.now _ c.statement.inside.form c.statement.view_is c.in-If.condition c.in-If.block c.in-If.elsifs c.in-If.otherwise c.in-If.is c.in-Some.line
    (c.in-Some.ensures ∙ both_or (c.unbuilt_condition-condition.ensures ∙ ap (unbuilt_condition c.args.declared.now) c.get.ensures) c.unbuilt_block.ensures))

pub unbuilt_statement-returns-in-Some-unbuilt_elsif : goal.unbuilt_statement-returns-in-Some-unbuilt_elsif
unbuilt_statement-returns-in-Some-unbuilt_elsif t c =
    let head : None ≡ unbuilt_head c.args.declared.now c.args.is_inside c.in-If.condition c.in-If.block = c.in_default-or.ensures ∙ both_or (c.unbuilt_condition-condition.ensures ∙ ap (unbuilt_condition c.args.declared.now) c.get.ensures) c.unbuilt_block.ensures in
    sym (elsif_found c.args.declared.now c.args.is_inside c.args.statement.now _ c.statement.inside.form c.statement.view_is c.in-If.condition c.in-If.block c.as_slice-elsif-items.result.now c.in-If.otherwise (c.in-If.is ∙ ap (λ l. statement.If c.in-If.condition c.in-If.block l c.in-If.otherwise) (sym c.as_slice-elsif-items.ensures)) c.in-Some-unbuilt_elsif.line head
    (found (unbuilt_elsif c.args.declared.now c.args.is_inside) c.as_slice-elsif-items.result.now c.loop-elsif.elsif-index c.in-Some-unbuilt_elsif.line c.elsif-item.result c.loop-elsif.invariant c.loop-elsif-test.true c.elsif-item.is (sym c.in-Some-unbuilt_elsif.ensures)))

pub unbuilt_statement-returns-in-None : goal.unbuilt_statement-returns-in-None
unbuilt_statement-returns-in-None t c =
    let head : None ≡ unbuilt_head c.args.declared.now c.args.is_inside c.in-If.condition c.in-If.block = c.in_default-or.ensures ∙ both_or (c.unbuilt_condition-condition.ensures ∙ ap (unbuilt_condition c.args.declared.now) c.get.ensures) c.unbuilt_block.ensures in
    sym (else_says c.args.declared.now c.args.is_inside c.args.statement.now _ c.statement.inside.form c.statement.view_is c.in-If.condition c.in-If.block c.as_slice-elsif-items.result.now c.in-If.otherwise (c.in-If.is ∙ ap (λ l. statement.If c.in-If.condition c.in-If.block l c.in-If.otherwise) (sym c.as_slice-elsif-items.ensures)) head
    (none_found (unbuilt_elsif c.args.declared.now c.args.is_inside) c.as_slice-elsif-items.result.now c.loop-elsif.elsif-index c.loop-elsif.invariant c.loop-elsif-test.false)
    ∙ ap (λ o. unbuilt_else c.args.declared.now c.args.is_inside (else_view o)) c.in-None.is)

pub unbuilt_statement-returns-in-Some-otherwise : goal.unbuilt_statement-returns-in-Some-otherwise
unbuilt_statement-returns-in-Some-otherwise t c =
    let head : None ≡ unbuilt_head c.args.declared.now c.args.is_inside c.in-If.condition c.in-If.block = c.in_default-or.ensures ∙ both_or (c.unbuilt_condition-condition.ensures ∙ ap (unbuilt_condition c.args.declared.now) c.get.ensures) c.unbuilt_block.ensures in
    c.unbuilt_block-in-Some-otherwise.ensures
    ∙ sym (else_says c.args.declared.now c.args.is_inside c.args.statement.now _ c.statement.inside.form c.statement.view_is c.in-If.condition c.in-If.block c.as_slice-elsif-items.result.now c.in-If.otherwise (c.in-If.is ∙ ap (λ l. statement.If c.in-If.condition c.in-If.block l c.in-If.otherwise) (sym c.as_slice-elsif-items.ensures)) head
    (none_found (unbuilt_elsif c.args.declared.now c.args.is_inside) c.as_slice-elsif-items.result.now c.loop-elsif.elsif-index c.loop-elsif.invariant c.loop-elsif-test.false)
    ∙ ap (λ o. unbuilt_else c.args.declared.now c.args.is_inside (else_view o)) c.in-Some-otherwise.is)

pub unbuilt_statement-returns-in-None-invariant : goal.unbuilt_statement-returns-in-None-invariant
unbuilt_statement-returns-in-None-invariant t c =
    c.unbuilt_block-in-None-invariant.ensures ∙ sym (loop_says c.args.declared.now c.args.is_inside c.args.statement.now _ c.statement.inside.form c.statement.view_is c.in-Loop.invariant c.in-Loop.block c.in-Loop.is c.in-None-invariant.is)

pub unbuilt_statement-returns-in-Some-invariant : goal.unbuilt_statement-returns-in-Some-invariant
unbuilt_statement-returns-in-Some-invariant t c =
    sym (loop_with_invariant c.args.declared.now c.args.is_inside c.args.statement.now _ c.statement.inside.form c.statement.view_is c.in-Loop.invariant c.in-Loop.block c.in-Some-invariant.field-0 c.in-Loop.is c.in-Some-invariant.is)

pub unbuilt_statement-returns-in_default : goal.unbuilt_statement-returns-in_default
unbuilt_statement-returns-in_default t c =
    c.unbuilt_plain.ensures ∙ sym (other_says c.args.declared.now c.args.is_inside c.args.statement.now _ c.statement.inside.form c.statement.view_is c.in_default.not-If c.in_default.not-Loop)
