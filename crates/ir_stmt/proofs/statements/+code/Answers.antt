use Rattle.std.proofs.Common.{◌≡◌, ◌+◌, ◌∷◌, ◌++◌, [], ap, sym, subst, ◌∙◌, arith}
use Rattle.std.specs.Prelude.{OnOk, None, Some}
use denote.Param.Weighed.{most}
use Rattle.ir_code.specs.Pieces.{leave, with_op}
use Rattle.tu_expr.specs.Leaves.{mark, spot_mark}
use Rattle.tu_tree.specs.StatementViews.{elsifs_view, else_view}
use Rattle.tu_tree.specs.declared.statement.Block.TheDeep.{size-Elsif}
use Rattle.tu_tree.specs.declared.statement.StatementForm.TheVariants.{If, Loop}
use Rattle.ir_build.specs.Code.{where_tested}
use Rattle.ir_build.specs.Compared.{tested_code}
use Rattle.ir_build.specs.Tokens.{tokens_in}
use Rattle.ir_stmt.specs.Code.{code_otherwise, code_statement, code_simple}
use Rattle.ir_stmt.proofs.Assigning.{with_form}
use Rattle.ir_stmt.proofs.Alternatives.{if_tokens, elsifs_fall, elsif_tokens, elsifs_tokens_at, parts_tokens_at, if_made, loop_made, invariant_made, simple_made, arm_made, elsif_at, part_at}
use Rattle.ir_stmt.proofs.statements.+code.Goals as goal

pub arm-returns-clause-code : goal.arm-returns-clause-code
arm-returns-clause-code t c =
    let test = tested_code c.args.code.now c.args.tested in
    let first : c.push.new.self.ops ≡ c.block.new.code.ops ++ leave 0 ∷ [] = ap (λ z. z.ops) c.in_ok-push.ensures ∙ (λ j. c.block.new.code.ops ++ c.leave.ensures j ∷ []) in
    let op : c.where_tested.result ≡ where_tested test c.push.new.self.ops [] = c.where_tested.ensures c.args.code.now ∙ ap (where_tested test c.push.new.self.ops) c.new.ensures in
    let next : c.push.new.self.next ≡ c.block.new.code.next = ap (λ z. z.next) c.in_ok-push.ensures in
    let same = (λ j. with_op (record { ops = c.args.code.now.ops; next = next j }) c.where_tested.result)
    ∙ arm_made c.args.environment.now.fixed c.args.environment.now.names.now c.args.outside c.args.body.now c.new-first.result c.block.new.code test c.where_tested.result c.push.new.self.ops c.new-first.ensures c.in_ok-block.ensures.code first op in
    subst (λ z. OnOk c.push-2.result (c.push-2.new.self ≡ z)) same c.push-2.ensures

pub block-loop-part-preserved : goal.block-loop-part-preserved
block-loop-part-preserved t c =
    let xs = c.as_slice-part-items.result.now in
    let i = c.loop-part.part-index in
    let x = c.loop-part-item.result in
    let s = c.in-Statement.inner in
    let tokens = parts_tokens_at xs i x s c.loop-part-test.true c.loop-part-item.is c.in-Statement.is in
    record {
      rest = part_at c.args.environment.now.fixed c.args.environment.now.names.now c.args.outside c.loop-part.code c.statement.new.code xs i x s c.loop-part-test.true c.loop-part-item.is c.in-Statement.is c.in_ok-statement.ensures.code ∙ c.loop-part.invariant.rest;
      next = omega (arith, tokens, c.loop-part.invariant.next, c.in_ok-statement.ensures.next);
      depth = omega (arith, tokens, c.loop-part.invariant.depth);
    }

pub further_arms-loop-elsif-preserved : goal.further_arms-loop-elsif-preserved
further_arms-loop-elsif-preserved t c =
    let xs = c.args.elsifs.now in
    let i = c.loop-elsif.elsif-index in
    let x = c.elsif-item.result in
    let m = spot_mark c.elsif.inside.spot in
    let test = tested_code c.condition.new.code c.in_ok-tested.tested in
    let tokens = elsifs_tokens_at xs i x c.loop-elsif-test.true c.elsif-item.is in
    let inner = elsif_tokens x m c.elsif.inside.condition c.elsif.inside.block c.elsif.view_is in
    record {
      rest = elsif_at c.args.environment.now.fixed c.args.environment.now.names.now c.args.outside c.loop-elsif.code c.arm.new.code xs i x m c.elsif.inside.condition c.get-test.result.now c.elsif.inside.block test
          c.loop-elsif-test.true c.elsif-item.is c.elsif.view_is c.get-test.ensures c.in_ok-tested.ensures.made c.in_ok-arm.ensures.code ∙ c.loop-elsif.invariant.rest;
      next = omega (arith, tokens, inner, c.loop-elsif.invariant.next, c.in_ok-tested.ensures.next, c.in_ok-arm.ensures.next, ap tokens_in c.get-test.ensures);
      depth = omega (arith, tokens, c.loop-elsif.invariant.depth);
    }

pub statement-further_arms-requires : goal.statement-further_arms-requires
statement-further_arms-requires t c =
    let m = mark c.statement.inside.at in
    let is = with_form c.args.statement.now m c.statement.inside.form (If c.in-If.test c.in-If.first c.in-If.elsifs c.in-If.otherwise) c.statement.view_is c.in-If.is in
    let tokens = if_tokens c.args.statement.now m c.in-If.test c.in-If.first c.in-If.elsifs c.in-If.otherwise is in
    let slice = ap (λ xs. tokens_in (elsifs_view xs)) c.as_slice.ensures in
    let begun = ap (λ z. z.next) c.new-arms.ensures in
    let fall = elsifs_fall c.args.statement.now m c.in-If.test c.in-If.first c.in-If.elsifs c.in-If.otherwise is in (
      omega (arith, c.decreases, fall, ap (λ xs. most (λ x. size-Elsif x) xs) c.as_slice.ensures),
      (omega (arith, tokens, slice, begun, c.requires.room, c.in_ok-tested-in-If.ensures.next, c.in_ok-arm-in-If.ensures.next, ap tokens_in c.get.ensures), omega (arith, tokens, slice, c.requires.depth)),
    )

pub statement-returns-in-None-clause-code : goal.statement-returns-in-None-clause-code
statement-returns-in-None-clause-code t c =
    let m = mark c.statement.inside.at in
    let is = with_form c.args.statement.now m c.statement.inside.form (If c.in-If.test c.in-If.first c.in-If.elsifs c.in-If.otherwise) c.statement.view_is c.in-If.is in
    let test = tested_code c.condition.new.code c.in_ok-tested-in-If.tested in
    let none : c.further_arms.new.code ≡ code_otherwise c.args.environment.now.fixed c.args.environment.now.names.now (c.args.outside + 1) (else_view c.in-If.otherwise) c.further_arms.new.code =
    sym (ap (λ o. code_otherwise c.args.environment.now.fixed c.args.environment.now.names.now (c.args.outside + 1) (else_view o) c.further_arms.new.code) c.in-None.is) in
    let same = if_made c.args.environment.now.fixed c.args.environment.now.names.now c.args.outside m c.in-If.test c.in-If.first c.in-If.elsifs c.in-If.otherwise c.args.statement.now c.args.code.now c.new-arms.result c.arm.new.code c.further_arms.new.code
    c.further_arms.new.code test c.get.result.now c.as_slice.result.now is c.get.ensures c.new-arms.ensures c.in_ok-tested-in-If.ensures.made c.in_ok-arm-in-If.ensures.code c.as_slice.ensures c.in_ok-further_arms-in-If.ensures.code none in
    subst (λ z. OnOk c.enclose_once.result (c.enclose_once.new.code ≡ z)) same c.enclose_once.ensures

pub statement-returns-in_ok-block-in-Some-clause-code : goal.statement-returns-in_ok-block-in-Some-clause-code
statement-returns-in_ok-block-in-Some-clause-code t c =
    let m = mark c.statement.inside.at in
    let is = with_form c.args.statement.now m c.statement.inside.form (If c.in-If.test c.in-If.first c.in-If.elsifs c.in-If.otherwise) c.statement.view_is c.in-If.is in
    let test = tested_code c.condition.new.code c.in_ok-tested-in-If.tested in
    let last : c.block.new.code ≡ code_otherwise c.args.environment.now.fixed c.args.environment.now.names.now (c.args.outside + 1) (else_view c.in-If.otherwise) c.further_arms.new.code =
    c.in_ok-block-in-Some.ensures.code ∙ sym (ap (λ o. code_otherwise c.args.environment.now.fixed c.args.environment.now.names.now (c.args.outside + 1) (else_view o) c.further_arms.new.code) c.in-Some.is) in
    let same = if_made c.args.environment.now.fixed c.args.environment.now.names.now c.args.outside m c.in-If.test c.in-If.first c.in-If.elsifs c.in-If.otherwise c.args.statement.now c.args.code.now c.new-arms.result c.arm.new.code c.further_arms.new.code
    c.block.new.code test c.get.result.now c.as_slice.result.now is c.get.ensures c.new-arms.ensures c.in_ok-tested-in-If.ensures.made c.in_ok-arm-in-If.ensures.code c.as_slice.ensures c.in_ok-further_arms-in-If.ensures.code last in
    subst (λ z. OnOk c.enclose_once-in-Some.result (c.enclose_once-in-Some.new.code ≡ z)) same c.enclose_once-in-Some.ensures

pub statement-returns-in-Some-invariant-clause-code : goal.statement-returns-in-Some-invariant-clause-code
statement-returns-in-Some-invariant-clause-code t c =
    let m = mark c.statement.inside.at in
    let is = with_form c.args.statement.now m c.statement.inside.form (Loop (Some c.in-Some-invariant.field-0) c.in-Loop.body) c.statement.view_is (c.in-Loop.is ∙ ap (λ o. Loop o c.in-Loop.body) c.in-Some-invariant.is) in
    invariant_made c.args.environment.now.fixed c.args.environment.now.names.now c.args.outside m c.in-Some-invariant.field-0 c.in-Loop.body c.args.statement.now c.args.code.now is

pub statement-returns-in-None-invariant-clause-code : goal.statement-returns-in-None-invariant-clause-code
statement-returns-in-None-invariant-clause-code t c =
    let m = mark c.statement.inside.at in
    let body = c.in-Loop.body in
    let is = with_form c.args.statement.now m c.statement.inside.form (Loop None body) c.statement.view_is (c.in-Loop.is ∙ ap (λ o. Loop o body) c.in-None-invariant.is) in
    let same = loop_made c.args.environment.now.fixed c.args.environment.now.names.now c.args.outside m body c.args.statement.now c.args.code.now is in
    subst (λ z. OnOk c.rounds.result (c.rounds.new.code ≡ z)) same c.rounds.ensures.code

pub statement-returns-in_default : goal.statement-returns-in_default
statement-returns-in_default t c =
    let m = mark c.statement.inside.at in
    let same : code_simple c.args.environment.now.fixed c.args.environment.now.names.now c.args.outside c.args.statement.now c.args.code.now ≡ code_statement c.args.environment.now.fixed c.args.environment.now.names.now c.args.outside c.args.statement.now c.args.code.now =
    simple_made c.args.environment.now.fixed c.args.environment.now.names.now c.args.outside m c.statement.inside.form c.args.statement.now c.args.code.now c.statement.view_is c.in_default.not-If c.in_default.not-Loop in
    record { code = subst (λ z. OnOk c.simple.result (c.simple.new.code ≡ z)) same c.simple.ensures.code; next = c.simple.ensures.next }
