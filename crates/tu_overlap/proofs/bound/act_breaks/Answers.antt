use Rattle.std.proofs.Common.{◌≡◌, ap, sym, subst, ◌∙◌}
use Rattle.tu_core.specs.Core.{Calls}
use Rattle.tu_core.specs.Acts.{Calling, Changing, Declaring, Defining}
use Rattle.tu_core.specs.Overlap.{ChangesAt}
use Rattle.tu_core_expressions.specs.ExpressionViews.{actuals_view}
use Rattle.tu_acts.specs.ActViews.{act_view, subject_view}
use Rattle.tu_effects.specs.Least.{IsLeast}
use Rattle.tu_overlap.specs.Faults.{IsBroken}
use Rattle.tu_overlap.proofs.Binding.{call_breaks, changing_breaks, declaring_breaks, defining_breaks}
use Rattle.tu_overlap.proofs.bound.act_breaks.Goals as goal

pub returns-in-Calling : goal.returns-in-Calling
returns-in-Calling c =
    let f = c.in-Calling in
    let x = subject_view c.args.x in
    let is : c.args.act.now ≡ Calling (Calls f.at f.callee f.invariant (actuals_view f.actuals.now)) = sym c.act.view_is ∙ ap act_view f.is in
    subst (λ a. IsLeast (IsBroken c.args.is_var c.args.program.now x a) c.at_if.result) (sym is)
    (subst (λ r. IsLeast (IsBroken c.args.is_var c.args.program.now x (Calling (Calls f.at f.callee f.invariant (actuals_view f.actuals.now)))) r) (sym c.at_if.ensures)
    (call_breaks c.args.program.now c.args.effects.now c.args.found.now c.args.is_var x f.at f.callee f.invariant (actuals_view f.actuals.now) c.calls_found.result c.requires.effects c.requires.found c.calls_found.ensures))

pub returns-in-Changing : goal.returns-in-Changing
returns-in-Changing c =
    let f = c.in-Changing in
    let x = subject_view c.args.x in
    let found = c.changes_at.result in
    let is : c.args.act.now ≡ Changing f.field-0 (subject_view f.field-1) = sym c.act.view_is ∙ ap act_view f.is in
    subst (λ a. IsLeast (IsBroken c.args.is_var c.args.program.now x a) found) (sym is)
    (changing_breaks c.args.is_var c.args.program.now x f.field-0 (subject_view f.field-1) found (subst (λ a. IsLeast (ChangesAt x a) found) is c.changes_at.ensures))

pub returns-in-Declaring : goal.returns-in-Declaring
returns-in-Declaring c =
    let f = c.in-Declaring in
    let x = subject_view c.args.x in
    let found = c.changes_at-in-Declaring.result in
    let is : c.args.act.now ≡ Declaring f.field-0 f.field-1 = sym c.act.view_is ∙ ap act_view f.is in
    subst (λ a. IsLeast (IsBroken c.args.is_var c.args.program.now x a) found) (sym is)
    (declaring_breaks c.args.is_var c.args.program.now x f.field-0 f.field-1 found (subst (λ a. IsLeast (ChangesAt x a) found) is c.changes_at-in-Declaring.ensures))

pub returns-in-Defining : goal.returns-in-Defining
returns-in-Defining c =
    let f = c.in-Defining in
    let x = subject_view c.args.x in
    let found = c.changes_at-in-Defining.result in
    let is : c.args.act.now ≡ Defining f.field-0 f.field-1.now = sym c.act.view_is ∙ ap act_view f.is in
    subst (λ a. IsLeast (IsBroken c.args.is_var c.args.program.now x a) found) (sym is)
    (defining_breaks c.args.is_var c.args.program.now x f.field-0 f.field-1.now found (subst (λ a. IsLeast (ChangesAt x a) found) is c.changes_at-in-Defining.ensures))
