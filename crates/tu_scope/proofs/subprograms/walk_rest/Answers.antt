use Rattle.tu_scope_parts.proofs.Turns.{of, ◌▸◌}
use Rattle.tu_scope.proofs.Forms.{rest_done}
use Rattle.tu_scope.proofs.subprograms.walk_rest.Goals as goal

pub returns : goal.returns
returns c =
    rest_done c.rest.inside.pre c.rest.inside.givens c.rest.inside.post c.rest.inside.handler c.rest.inside.block c.rest.inside.ending c.rest.view_is
    (of c.in_ok-walk_pre.ensures ▸ of c.in_ok-walk_any_givens.ensures ▸ of c.in_ok-walk_post.ensures ▸ of c.in_ok-walk_any_handler.ensures ▸ c.in_ok-walk_body.ensures)
