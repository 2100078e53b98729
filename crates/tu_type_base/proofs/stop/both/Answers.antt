use Rattle.std.proofs.Common.{subst, sym, ap, ◌∙◌}
use Rattle.std.specs.Prelude.{Err}
use Rattle.tu_type_base.specs.Checked.{both}
use Rattle.tu_type_base.specs.Answers.{IsAnswer}
use Rattle.tu_type_base.proofs.Faults.{both_stopped, left_stopped}
use Rattle.tu_type_base.proofs.stop.both.Goals as goal
use Rattle.tu_type_base.proofs.stop.both.Goals.{in-Ok-second-2, in-Err-second-2}

pub returns-after-second-2 : goal.returns-after-second-2
returns-after-second-2 g c x y h k =
    let stops = rw c.in-Err.is at h in
    elim c.match-second-2.branch [
      | in-Ok-second-2 w ↦ subst (λ r. IsAnswer r (both x y)) (sym w.result-is) (left_stopped c.in-Err.stop w.in-Ok-second-2.field-0 x y stops (rw w.in-Ok-second-2.is at k))
      | in-Err-second-2 w ↦
          subst (λ r. IsAnswer r (both x y)) (sym (w.result-is ∙ ap Err w.joined.ensures)) (both_stopped c.in-Err.stop w.in-Err-second-2.other x y stops (rw w.in-Err-second-2.is at k))
    ]
