use Rattle.std.proofs.Common.{◌∙◌, append_assoc}
use Rattle.std.proofs.lemmas.Result.{on_ok_weaker}
use Rattle.rv_pieces.proofs.output.Output.push_opening.Goals as goal

pub returns : goal.returns
returns c =
    on_ok_weaker c.push_go.result
    (λ e. e ∙ rw (c.in_ok-push_copy.ensures, c.in_ok-push_below.ensures, c.in_ok-push_long.ensures, c.in_ok-push_first_room.ensures) (simp append_assoc))
    c.push_go.ensures
