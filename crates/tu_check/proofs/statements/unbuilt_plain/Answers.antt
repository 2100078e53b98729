use Rattle.std.proofs.Common.{sym, ap, ◌∙◌, if◌then◌else◌}
use Rattle.std.specs.Prelude.{None, Some}
use Rattle.tu_tree.specs.declared.statement.StatementForm.TheVariants as statement
use Rattle.tu_check.specs.Built.{unbuilt, unbuilt_condition}
use Rattle.tu_check.proofs.Lists.{both_or}
use Rattle.tu_check.proofs.Bodies.{plain_says, exit_says, exit_when_says, put_says, put_to_stream, rest_says}
use Rattle.tu_check.proofs.statements.unbuilt_plain.Goals.{in_default-via-in-Exit+else-is_inside, in_default-via-in-ExitWhen+else-is_inside-2, in_default-via-in_default}
use Rattle.tu_check.proofs.statements.unbuilt_plain.Goals as goal

pub returns-in-Assign : goal.returns-in-Assign
returns-in-Assign c =
    c.or.ensures ∙ (both_or c.unbuilt_path.ensures (c.unbuilt.ensures ∙ ap (unbuilt c.args.declared.now) c.get.ensures)
    ∙ sym (plain_says c.args.declared.now c.args.is_inside c.args.statement.now _ c.statement.inside.form c.statement.view_is (statement.Assign c.in-Assign.path c.in-Assign.value) c.in-Assign.is))

pub returns-in-Exit : goal.returns-in-Exit
returns-in-Exit c =
    sym (exit_says c.args.declared.now c.args.is_inside c.args.statement.now _ c.statement.inside.form c.statement.view_is c.in-Exit.is ∙ ap (λ b. if b then None else Some c.statement.inside.at.line) c.if-is_inside.true)

pub returns-in-ExitWhen : goal.returns-in-ExitWhen
returns-in-ExitWhen c =
    c.unbuilt_condition.ensures ∙ (ap (unbuilt_condition c.args.declared.now) c.get-in-ExitWhen.ensures
    ∙ sym (exit_when_says c.args.declared.now c.args.is_inside c.args.statement.now _ c.statement.inside.form c.statement.view_is c.in-ExitWhen.condition c.in-ExitWhen.is ∙ ap (λ b. if b then unbuilt_condition c.args.declared.now c.in-ExitWhen.condition else Some c.statement.inside.at.line) c.if-is_inside-2.true))

pub returns-in-None : goal.returns-in-None
returns-in-None c =
    c.or-in-None.ensures ∙ (both_or c.unbuilt_shown.ensures (rw c.as_slice.ensures at c.unbuilt_shown_more.ensures)
    ∙ sym (put_says c.args.declared.now c.args.is_inside c.args.statement.now _ c.statement.inside.form c.statement.view_is c.in-Put.stream c.in-Put.first c.in-Put.more c.in-Put.is_open c.in-Put.is c.in-None.is))

pub returns-in-Some : goal.returns-in-Some
returns-in-Some c =
    sym (put_to_stream c.args.declared.now c.args.is_inside c.args.statement.now _ c.statement.inside.form c.statement.view_is c.in-Put.stream c.in-Put.first c.in-Put.more c.in-Put.is_open c.in-Some.field-0 c.in-Put.is c.in-Some.is)

pub returns-in_default : goal.returns-in_default
returns-in_default c =
    elim c.in_default.branch [
      | in_default-via-in-Exit+else-is_inside w ↦ sym (exit_says c.args.declared.now c.args.is_inside c.args.statement.now _ c.statement.inside.form c.statement.view_is w.in-Exit.is ∙ ap (λ b. if b then None else Some c.statement.inside.at.line) w.if-is_inside.false)
      | in_default-via-in-ExitWhen+else-is_inside-2 w ↦ sym (exit_when_says c.args.declared.now c.args.is_inside c.args.statement.now _ c.statement.inside.form c.statement.view_is w.in-ExitWhen.condition w.in-ExitWhen.is ∙ ap (λ b. if b then unbuilt_condition c.args.declared.now w.in-ExitWhen.condition else Some c.statement.inside.at.line) w.if-is_inside-2.false)
      | in_default-via-in_default w ↦ sym (rest_says c.args.declared.now c.args.is_inside c.args.statement.now _ c.statement.inside.form c.statement.view_is w.in_default.not-Assign w.in_default.not-Exit w.in_default.not-ExitWhen w.in_default.not-Put)
    ]
