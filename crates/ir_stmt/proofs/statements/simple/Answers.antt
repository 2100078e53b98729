use Rattle.std.proofs.Common.{◌≡◌, arith, ap, subst, ◌∙◌, sym}
use Rattle.std.specs.Prelude.{OnOk}
use Rattle.grammar.specs.Description.{rule}
use Rattle.ir_code.specs.Pieces.{with_op}
use Rattle.tu_token.specs.declared.class.Class.TheVariants.{SignComma, SignRange}
use Rattle.tu_token.specs.Rules.{r-shown}
use Rattle.tu_expr.specs.Leaves.{mark}
use Rattle.tu_expr.specs.Parts.{chain}
use Rattle.tu_tree.specs.Parts.{flag}
use Rattle.ir_stmt.specs.Code.{code_end, code_shown, code_shown_more, code_simple}
use Rattle.ir_stmt.specs.Made.{assigned, left_where}
use Rattle.ir_stmt.proofs.Assigning.{with_form, assign_is, exit_is, exit_when_is, put_is, put_elsewhere, other_is}
use Rattle.ir_stmt.proofs.statements.simple.Goals as goal

pub returns-in-Assign-clause-code : goal.returns-in-Assign-clause-code
returns-in-Assign-clause-code c =
    let k = c.args.environment.now.fixed in
    let names = c.args.environment.now.names.now in
    let line = c.statement.inside.at.line in
    let same : assigned k names line c.in-Assign.path c.get.result.now c.args.code.now ≡ code_simple k names c.args.outside c.args.statement.now c.args.code.now =
    ap (λ v. assigned k names line c.in-Assign.path v c.args.code.now) c.get.ensures
    ∙ (assign_is k names c.args.outside (mark c.statement.inside.at) c.in-Assign.path c.in-Assign.value c.args.code.now
    ∙ ap (λ s. code_simple k names c.args.outside s c.args.code.now) (with_form c.args.statement.now _ c.statement.inside.form _ c.statement.view_is c.in-Assign.is)) in
    subst (λ z. OnOk c.assign.result (c.assign.new.code ≡ z)) same c.assign.ensures.code

pub returns-in-Exit-clause-code : goal.returns-in-Exit-clause-code
returns-in-Exit-clause-code c =
    let same = ap (with_op c.args.code.now) c.leave.ensures ∙ exit_is c.args.environment.now.fixed c.args.environment.now.names.now c.args.outside c.args.statement.now (mark c.statement.inside.at) c.statement.inside.form c.args.code.now c.statement.view_is c.in-Exit.is in
    subst (λ z. OnOk c.push.result (c.push.new.self ≡ z)) same c.push.ensures

pub returns-in-ExitWhen-clause-code : goal.returns-in-ExitWhen-clause-code
returns-in-ExitWhen-clause-code c =
    let same = ap (λ e. left_where c.args.environment.now.fixed c.args.environment.now.names.now c.args.outside c.statement.inside.at.line e c.args.code.now) c.get-in-ExitWhen.ensures
    ∙ exit_when_is c.args.environment.now.fixed c.args.environment.now.names.now c.args.outside c.args.statement.now (mark c.statement.inside.at) c.statement.inside.form c.args.code.now c.statement.view_is c.in-ExitWhen.expr c.in-ExitWhen.is in
    subst (λ z. OnOk c.exit_when.result (c.exit_when.new.code ≡ z)) same c.exit_when.ensures.code

pub returns-then-is_some-clause-code : goal.returns-then-is_some-clause-code
returns-then-is_some-clause-code c =
    put_elsewhere c.args.environment.now.fixed c.args.environment.now.names.now c.args.outside c.args.statement.now (mark c.statement.inside.at) c.statement.inside.form c.args.code.now c.statement.view_is c.in-Put.stream c.in-Put.first c.in-Put.more c.in-Put.is_open c.in-Put.is (sym c.is_some.ensures ∙ c.if-is_some.true)

pub returns-else-is_some-clause-code : goal.returns-else-is_some-clause-code
returns-else-is_some-clause-code c =
    let k = c.args.environment.now.fixed in
    let names = c.args.environment.now.names.now in
    let line = c.statement.inside.at.line in
    let same = ap (λ more. code_end k names line (flag SignRange c.in-Put.is_open) (code_shown_more k names line (chain SignComma (rule r-shown) more) (code_shown k names line c.in-Put.first c.args.code.now))) c.as_slice-more.ensures
    ∙ put_is c.args.environment.now.fixed c.args.environment.now.names.now c.args.outside c.args.statement.now (mark c.statement.inside.at) c.statement.inside.form c.args.code.now c.statement.view_is c.in-Put.stream c.in-Put.first c.in-Put.more c.in-Put.is_open c.in-Put.is (sym c.is_some.ensures ∙ c.if-is_some.false) in
    subst (λ z. OnOk c.put.result (c.put.new.code ≡ z)) same c.put.ensures.code

pub returns-in_default : goal.returns-in_default
returns-in_default c = record {
  code = other_is c.args.environment.now.fixed c.args.environment.now.names.now c.args.outside (mark c.statement.inside.at) c.statement.inside.form c.args.statement.now c.args.code.now c.statement.view_is c.in_default.not-Assign c.in_default.not-Exit c.in_default.not-ExitWhen c.in_default.not-Put;
  next = omega arith;
}
