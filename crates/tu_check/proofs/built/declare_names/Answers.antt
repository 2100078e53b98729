use Rattle.std.proofs.Common.{◌≡◌, sym, ap, ◌∙◌}
use Rattle.std.specs.Prelude.{◌∷◌}
use Rattle.grammar.specs.Tree.{n-rule}
use Rattle.tu_expr.specs.Leaves.{mark}
use Rattle.tu_tree.specs.TypeViews.{names_view}
use Rattle.tu_check.specs.Built.{is_declared, names_of}
use Rattle.tu_check.proofs.Declarations.{names_are, was_new, was_known, added_if, first_passed, next_passed, known_at, all_passed}
use Rattle.tu_check.proofs.built.declare_names.Goals as goal

pub loop-name-init : goal.loop-name-init
loop-name-init c =
    let names = c.as_slice-name-items.result.now in
    let text : c.as_slice.result.now ≡ c.names.inside.first.text = c.as_slice.ensures in
    first_passed c.args.declared.now c.declare.new.self (names_of c.args.names.now) c.names.inside.first names
    (names_are c.args.names.now _ c.names.inside.first names (ap (λ l. n-rule (mark c.names.inside.at) (names_view c.names.inside.first l)) c.as_slice-name-items.ensures ∙ c.names.view_is))
    (ap (is_declared c.args.declared.now) (sym text) ∙ was_new c.in_ok-declare.ensures.fresh c.if-not-branch.false)
    (added_if c.declare.new.self _ _ c.in_ok-declare.ensures.added c.if-not-branch.false ∙ ap (λ x. x ∷ c.args.declared.now) text)

pub returns-then-not-branch-2-clause-unbuilt : goal.returns-then-not-branch-2-clause-unbuilt
returns-then-not-branch-2-clause-unbuilt c =
    sym (known_at c.args.declared.now c.loop-name.declared (names_of c.args.names.now) c.as_slice-name-items.result.now c.loop-name.name-index c.name-item.result c.loop-name.invariant c.loop-name-test.true c.name-item.is
    (ap (is_declared c.loop-name.declared) (sym c.as_slice-in-loop-name.ensures) ∙ was_known c.in_ok-declare-2.ensures.fresh c.if-not-branch-2.true))

pub loop-name-preserved : goal.loop-name-preserved
loop-name-preserved c =
    next_passed c.args.declared.now c.loop-name.declared c.declare-in-loop-name.new.self (names_of c.args.names.now) c.as_slice-name-items.result.now c.loop-name.name-index c.name-item.result c.loop-name.invariant c.loop-name-test.true c.name-item.is
    (ap (is_declared c.loop-name.declared) (sym c.as_slice-in-loop-name.ensures) ∙ was_new c.in_ok-declare-2.ensures.fresh c.if-not-branch-2.false)
    (added_if c.declare-in-loop-name.new.self _ _ c.in_ok-declare-2.ensures.added c.if-not-branch-2.false ∙ ap (λ x. x ∷ c.loop-name.declared) c.as_slice-in-loop-name.ensures)

pub returns-clause-unbuilt : goal.returns-clause-unbuilt
returns-clause-unbuilt c = sym (all_passed c.args.declared.now c.loop-name.declared (names_of c.args.names.now) c.as_slice-name-items.result.now c.loop-name.name-index c.loop-name.invariant c.loop-name-test.false).0

pub returns-clause-declared : goal.returns-clause-declared
returns-clause-declared c = λ e. (all_passed c.args.declared.now c.loop-name.declared (names_of c.args.names.now) c.as_slice-name-items.result.now c.loop-name.name-index c.loop-name.invariant c.loop-name-test.false).1
