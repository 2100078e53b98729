use Rattle.tu_tree.specs.DeclarationViews.{var_view}
use Rattle.tu_scope_parts.proofs.Turns.{arm, of, same, ◌▸◌}
use Rattle.tu_scope_parts.proofs.declarations.walk_var.Goals as goal

pub returns-in_ok-list_names-in-Collection-2 : goal.returns-in_ok-list_names-in-Collection-2
returns-in_ok-list_names-in-Collection-2 c =
    arm (var_view c.var.inside.names) c.var.view_is c.in-Collection.is
    (c.in_ok-open-in-Collection.ensures ▸ c.in_ok-list_names-in-Collection.ensures ▸ of c.in_ok-walk_spec-in-Collection.ensures
    ▸ (c.in_ok-close-in-Collection.ensures ▸ c.in_ok-list_names-in-Collection-2.ensures))

pub returns-in_ok-list_names-in-Typed : goal.returns-in_ok-list_names-in-Typed
returns-in_ok-list_names-in-Typed c =
    arm (var_view c.var.inside.names) c.var.view_is c.in-Typed.is
    (of c.in_ok-walk_spec-in-Typed.ensures ▸ of c.in_ok-walk_started-in-Typed.ensures ▸ c.in_ok-list_names-in-Typed.ensures)

pub returns-in_ok-list_names-in-Started : goal.returns-in_ok-list_names-in-Started
returns-in_ok-list_names-in-Started c =
    let first = same c.get.ensures c.in_ok-walk_expr-in-Started.ensures in
    arm (var_view c.var.inside.names) c.var.view_is c.in-Started.is (first ▸ c.in_ok-list_names-in-Started.ensures)
