use Rattle.tu_tree.specs.SubprogramViews.{subprogram_view}
use Rattle.tu_scope_parts.proofs.Turns.{arm, of, ◌▸◌}
use Rattle.tu_scope.proofs.subprograms.walk_subprogram.Goals as goal

pub returns-in_ok-end_forward-in-Forward : goal.returns-in_ok-end_forward-in-Forward
returns-in_ok-end_forward-in-Forward c = arm subprogram_view c.subprogram.view_is c.in-Forward.is (c.in_ok-begin_head-in-Forward.ensures ▸ c.in_ok-end_forward-in-Forward.ensures)

pub returns-in_ok-end_head-in-Whole : goal.returns-in_ok-end_head-in-Whole
returns-in_ok-end_head-in-Whole c =
    arm subprogram_view c.subprogram.view_is c.in-Whole.is (c.in_ok-begin_head-in-Whole.ensures ▸ of c.in_ok-walk_rest-in-Whole.ensures ▸ c.in_ok-end_head-in-Whole.ensures)

pub returns-in_ok-end_rest-in-Body : goal.returns-in_ok-end_rest-in-Body
returns-in_ok-end_rest-in-Body c =
    arm subprogram_view c.subprogram.view_is c.in-Body.is (c.in_ok-begin_body-in-Body.ensures ▸ of c.in_ok-walk_rest-in-Body.ensures ▸ c.in_ok-end_rest-in-Body.ensures)
