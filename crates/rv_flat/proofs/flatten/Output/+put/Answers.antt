use Rattle.std.proofs.Common.{arith, ◌≡◌, ◌+◌, length, ap, ◌∙◌}
use Rattle.std.proofs.lemmas.Result.{on_ok_weaker, IfOk-weaker}
use Rattle.rv_flat.specs.Flat.{around_of, labels, labels_list, labels_each}
use Rattle.rv_flat.proofs.Sizes.{size, size_list, size_each, size-If, size-Case, size-Loop, size-Guard}
use Rattle.rv_flat.proofs.Lists.{labels-If, labels-Case, labels-Loop, labels-Guard, if_emitted, loop_emitted, guard_emitted, case_emitted, around_same}
use Rattle.rv_flat.proofs.flatten.Output.+put.Goals as goal

pub put_op-put_choice-requires : goal.put_op-put_choice-requires
put_op-put_choice-requires t c =
    let f : size c.args.op.now ≡ 1 + size_list c.in-If.yes.ops + size_list c.in-If.no.ops = ap size c.in-If.is ∙ size-If c.in-If.relation c.in-If.left c.in-If.right c.in-If.yes c.in-If.no c.in-If.to in
    (omega arith, tt)

pub put_op-put_case-requires : goal.put_op-put_case-requires
put_op-put_case-requires t c =
    let f : size c.args.op.now ≡ 1 + size_each c.in-Case.arms + size_list c.in-Case.others.ops = ap size c.in-Case.is ∙ size-Case c.in-Case.value c.in-Case.arms c.in-Case.others c.in-Case.to in
    let s = ap size_each c.as_slice.ensures in
    (omega arith, tt)

pub put_op-put_rounds-requires : goal.put_op-put_rounds-requires
put_op-put_rounds-requires t c =
    let f : size c.args.op.now ≡ 1 + size_list c.in-Loop.body.ops = ap size c.in-Loop.is ∙ size-Loop c.in-Loop.marked c.in-Loop.start c.in-Loop.body c.in-Loop.to in
    (omega arith, tt)

pub put_op-returns-in_ok-put-in-If-clause-code : goal.put_op-returns-in_ok-put-in-If-clause-code
put_op-returns-in_ok-put-in-If-clause-code t c =
    on_ok_weaker c.put_choice.result
    (λ e. if_emitted c.in-If.relation c.in-If.left c.in-If.right c.args.next (around_of c.args.self.now.around.items c.args.self.now.handler) _ c.in-If.yes c.in-If.no c.in-If.to c.args.op.now _ _ _ c.in-If.is
    (around_same c.args.self.now.around.items _ c.args.self.now.handler _ c.in_ok-put-in-If.ensures.around c.in_ok-put-in-If.ensures.handler) c.in_ok-put-in-If.ensures.code e)
    c.put_choice.ensures.code

pub put_op-returns-in_ok-put-in-If-clause-next : goal.put_op-returns-in_ok-put-in-If-clause-next
put_op-returns-in_ok-put-in-If-clause-next t c =
    let f : labels c.args.op.now ≡ 2 + labels_list c.in-If.yes.ops + labels_list c.in-If.no.ops = ap labels c.in-If.is ∙ labels-If c.in-If.relation c.in-If.left c.in-If.right c.in-If.yes c.in-If.no c.in-If.to in
    IfOk-weaker c.put_choice.result _ (λ n. n ≡ c.args.next + labels c.args.op.now) (λ n e. omega arith) c.put_choice.ensures.next

pub put_op-returns-in-Case-clause-code : goal.put_op-returns-in-Case-clause-code
put_op-returns-in-Case-clause-code t c =
    on_ok_weaker c.put_case.result
    (λ e. case_emitted c.in-Case.value c.args.next c.in-Case.arms _ c.in-Case.others c.in-Case.to (around_of c.args.self.now.around.items c.args.self.now.handler) c.args.op.now _ _ c.in-Case.is c.as_slice.ensures e)
    c.put_case.ensures.code

pub put_op-returns-in-Case-clause-next : goal.put_op-returns-in-Case-clause-next
put_op-returns-in-Case-clause-next t c =
    let f : labels c.args.op.now ≡ 1 + length c.in-Case.arms + labels_list c.in-Case.others.ops + labels_each c.in-Case.arms = ap labels c.in-Case.is ∙ labels-Case c.in-Case.value c.in-Case.arms c.in-Case.others c.in-Case.to in
    let s = ap length c.as_slice.ensures in let u = ap labels_each c.as_slice.ensures in
    IfOk-weaker c.put_case.result _ (λ n. n ≡ c.args.next + labels c.args.op.now) (λ n e. omega arith) c.put_case.ensures.next

pub put_op-returns-in_ok-put_label-in-Loop-clause-code : goal.put_op-returns-in_ok-put_label-in-Loop-clause-code
put_op-returns-in_ok-put_label-in-Loop-clause-code t c =
    on_ok_weaker c.put_rounds.result
    (λ e. loop_emitted c.in-Loop.marked c.in-Loop.start c.args.next c.in-Loop.body c.in-Loop.to (around_of c.args.self.now.around.items c.args.self.now.handler) _ c.args.op.now _ _ _ _ c.in-Loop.is
    (around_same c.args.self.now.around.items _ c.args.self.now.handler _ (c.in_ok-put_label-in-Loop.ensures.around ∙ c.in_ok-put_hand-in-Loop.ensures.around) (c.in_ok-put_label-in-Loop.ensures.handler ∙ c.in_ok-put_hand-in-Loop.ensures.handler))
    c.in_ok-put_hand-in-Loop.ensures.code c.in_ok-put_label-in-Loop.ensures.code e)
    c.put_rounds.ensures.code

pub put_op-returns-in_ok-put_label-in-Loop-clause-next : goal.put_op-returns-in_ok-put_label-in-Loop-clause-next
put_op-returns-in_ok-put_label-in-Loop-clause-next t c =
    let f : labels c.args.op.now ≡ 2 + labels_list c.in-Loop.body.ops = ap labels c.in-Loop.is ∙ labels-Loop c.in-Loop.marked c.in-Loop.start c.in-Loop.body c.in-Loop.to in
    IfOk-weaker c.put_rounds.result _ (λ n. n ≡ c.args.next + labels c.args.op.now) (λ n e. omega arith) c.put_rounds.ensures.next

pub put_op-put_handling-requires : goal.put_op-put_handling-requires
put_op-put_handling-requires t c =
    let f : size c.args.op.now ≡ 1 + size_list c.in-Guard.body.ops + size_list c.in-Guard.handler.ops = ap size c.in-Guard.is ∙ size-Guard c.in-Guard.mark c.in-Guard.body c.in-Guard.handler c.in-Guard.to in
    (omega arith, tt)

pub put_op-returns-in_ok-put-in-Guard-clause-code : goal.put_op-returns-in_ok-put-in-Guard-clause-code
put_op-returns-in_ok-put-in-Guard-clause-code t c =
    on_ok_weaker c.put_handling.result
    (λ e. guard_emitted c.in-Guard.mark c.args.next (around_of c.args.self.now.around.items c.args.self.now.handler) _ c.in-Guard.body c.in-Guard.handler c.in-Guard.to c.args.op.now _ _ _ c.in-Guard.is
    (around_same c.args.self.now.around.items _ c.args.self.now.handler _ c.in_ok-put-in-Guard.ensures.around c.in_ok-put-in-Guard.ensures.handler) c.in_ok-put-in-Guard.ensures.code e)
    c.put_handling.ensures.code

pub put_op-returns-in_ok-put-in-Guard-clause-next : goal.put_op-returns-in_ok-put-in-Guard-clause-next
put_op-returns-in_ok-put-in-Guard-clause-next t c =
    let f : labels c.args.op.now ≡ 2 + labels_list c.in-Guard.body.ops + labels_list c.in-Guard.handler.ops = ap labels c.in-Guard.is ∙ labels-Guard c.in-Guard.mark c.in-Guard.body c.in-Guard.handler c.in-Guard.to in
    IfOk-weaker c.put_handling.result _ (λ n. n ≡ c.args.next + labels c.args.op.now) (λ n e. omega arith) c.put_handling.ensures.next
