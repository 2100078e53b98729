use Rattle.std.proofs.Common.{◌≡◌, ap, sym, subst, ◌∙◌, take}
use Rattle.std.proofs.lemmas.List.{take_min}
use Rattle.std.proofs.lemmas.Result.{IfOk-weaker}
use Rattle.tu_core.specs.Core.{Calls}
use Rattle.tu_core.specs.Acts.{Binding, Calling}
use Rattle.tu_core_expressions.specs.ExpressionViews.{actuals_view}
use Rattle.tu_acts.specs.ActViews.{act_view}
use Rattle.tu_effects.specs.Least.{IsLeast}
use Rattle.tu_overlap.specs.Faults.{BreaksBind, CallHas, HasFaultIn}
use Rattle.tu_overlap.proofs.AllTexts.{call_fault, of_bind}
use Rattle.tu_overlap.proofs.texts.fault_of_act.Goals as goal

pub returns-in-Calling-clause-found : goal.returns-in-Calling-clause-found
returns-in-Calling-clause-found c =
    let f = c.in-Calling in
    let program = c.args.program.now in
    let behind = c.args.behind.now in
    let is : c.args.act.now ≡ Calling (Calls f.at f.callee f.invariant (actuals_view f.actuals.now)) = sym c.act.view_is ∙ ap act_view f.is in
    IfOk-weaker c.fault_of_call.result (λ o. IsLeast (CallHas program c.args.kind f.callee (actuals_view f.actuals.now)) o) (λ o. IsLeast (HasFaultIn program c.args.kind (c.args.act.now, behind)) o)
    (λ o h. subst (λ a. IsLeast (HasFaultIn program c.args.kind (a, behind)) o) (sym is) (call_fault program c.args.kind f.at f.callee f.invariant (actuals_view f.actuals.now) behind o h)) c.fault_of_call.ensures.found

pub returns-else-not-is_of_bind-clause-found : goal.returns-else-not-is_of_bind-clause-found
returns-else-not-is_of_bind-clause-found c =
    let b = c.in-Binding in
    let program = c.args.program.now in
    let behind = c.args.behind.now in
    let is : c.args.act.now ≡ Binding b.at b.name b.is_var b.place.now b.extent = sym c.act.view_is ∙ ap act_view b.is in
    let scope : c.split_at.result.0.now ≡ take b.extent behind = c.split_at.ensures.front ∙ ap (λ n. take n behind) c.min.ensures ∙ take_min b.extent behind in
    IfOk-weaker c.bind_broken.result (λ o. IsLeast (BreaksBind b.is_var program b.place.now c.split_at.result.0.now) o) (λ o. IsLeast (HasFaultIn program c.args.kind (c.args.act.now, behind)) o)
    (λ o h. subst (λ a. IsLeast (HasFaultIn program c.args.kind (a, behind)) o) (sym is)
    (of_bind program c.args.kind b.at b.name b.is_var b.place.now b.extent behind o (sym c.is_of_bind.ensures ∙ c.if-not-is_of_bind.false) (subst (λ s. IsLeast (BreaksBind b.is_var program b.place.now s) o) scope h))) c.bind_broken.ensures.found
