use Rattle.tu_scope_parts.proofs.Turns.{formal_done}
use Rattle.tu_scope_parts.proofs.heads.walk_formal.Goals as goal

pub returns : goal.returns
returns c = formal_done c.formal.inside.is_var c.formal.inside.names c.formal.view_is c.in_ok-walk_spec.ensures
