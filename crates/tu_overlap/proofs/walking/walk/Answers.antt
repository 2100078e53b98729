use Rattle.std.proofs.Common.{◌≡◌, ap, sym, ◌∙◌, List}
use Rattle.std.proofs.lemmas.Result.{IfOk-weaker}
use Rattle.tu_core.specs.declared.names.At.{At}
use Rattle.tu_core.specs.declared.targets.Index.{Index}
use Rattle.tu_core.specs.Core.{Pointer, Element, Name, OpenItem}
use Rattle.tu_core.specs.Walk.{walk}
use Rattle.tu_core_expressions.specs.ExpressionViews.{path_view, selectors_view, subscripts_view}
use Rattle.tu_overlap.specs.Verdicts.{verdict_view}
use Rattle.tu_overlap.proofs.walking.walk.Goals as goal

pub returns-in-Name : goal.returns-in-Name
returns-in-Name c =
    let first = c.first.inside in
    let other = c.args.second.now in
    let x = c.in-Name.x in
    let steps = c.as_slice-steps.result.now in
    let is : c.args.first.now ≡ Name first.at x (selectors_view steps) =
    sym c.first.view_is ∙ ap (λ r. path_view first.at r first.steps) c.in-Name.is ∙ ap (λ s. Name first.at x (selectors_view s)) (sym c.as_slice-steps.ensures) in
    IfOk-weaker c.walk_name.result (λ v. (at : At) → verdict_view v ≡ walk (Name at x (selectors_view steps)) other) (λ v. verdict_view v ≡ walk c.args.first.now other)
    (λ v h. h first.at ∙ ap (λ p. walk p other) (sym is)) c.walk_name.ensures

pub returns-in-OpenItem : goal.returns-in-OpenItem
returns-in-OpenItem c =
    let first = c.first.inside in
    let other = c.args.second.now in
    let o = c.in-OpenItem in
    let steps = c.as_slice-steps.result.now in
    let es = c.as_slice.result.now in
    let is : c.args.first.now ≡ OpenItem first.at o.name o.indexes (subscripts_view es) (selectors_view steps) =
    sym c.first.view_is ∙ ap (λ r. path_view first.at r first.steps) o.is
    ∙ ap (λ s. OpenItem first.at o.name o.indexes (subscripts_view o.subscripts) (selectors_view s)) (sym c.as_slice-steps.ensures)
    ∙ ap (λ s. OpenItem first.at o.name o.indexes (subscripts_view s) (selectors_view steps)) (sym c.as_slice.ensures) in
    IfOk-weaker c.walk_item.result (λ v. (at : At) (indexes : List Index) → verdict_view v ≡ walk (OpenItem at o.name indexes (subscripts_view es) (selectors_view steps)) other) (λ v. verdict_view v ≡ walk c.args.first.now other)
    (λ v h. h first.at o.indexes ∙ ap (λ p. walk p other) (sym is)) c.walk_item.ensures

pub returns-in-Element : goal.returns-in-Element
returns-in-Element c =
    let first = c.first.inside in
    let other = c.args.second.now in
    let e = c.in-Element in
    let steps = c.as_slice-steps.result.now in
    let is : c.args.first.now ≡ Element first.at e.collection e.pointer (selectors_view steps) =
    sym c.first.view_is ∙ ap (λ r. path_view first.at r first.steps) e.is ∙ ap (λ s. Element first.at e.collection e.pointer (selectors_view s)) (sym c.as_slice-steps.ensures) in
    IfOk-weaker c.walk_element.result (λ v. (at : At) (pointer : Pointer) → verdict_view v ≡ walk (Element at e.collection pointer (selectors_view steps)) other) (λ v. verdict_view v ≡ walk c.args.first.now other)
    (λ v h. h first.at e.pointer ∙ ap (λ p. walk p other) (sym is)) c.walk_element.ensures
