-- A meaning that is over, and a run that is.
use Rattle.std.proofs.Common.{◌≡◌, ◌≢◌, ℕ, ◌+◌, ◌≤◌, refl, sym, ◌∙◌, subst, arith}
use Rattle.tu_base.specs.declared.event.Verdict.{Verdict}
use Rattle.tu_base.specs.declared.event.Verdict.TheVariants.{Going as verdict_going}
use Rattle.rv_image.specs.Run.{MachineVerdict, Ended, Stopped, Fault, Going, Ran, machine_run, IsOver, machine_verdict}
use Rattle.tu_tree_meaning.specs.Meaning.{Meant}
use Rattle.tu_agree.specs.Agrees.{AgreesWithin, SameEnd, IsEnough}
use Rattle.tu_agree.specs.Laws.{MeaningIsRun}

-- what neither faults nor goes on is over
is_over : (v : MachineVerdict) → ((kind : _) (pc : ℕ) → v ≢ Fault kind pc) → v ≢ Going → IsOver v
is_over Ended faults goes = tt
is_over (Stopped kind line) faults goes = tt
is_over (Fault kind pc) faults goes = absurd (faults kind pc refl)
is_over Going faults goes = absurd (goes refl)

-- the meaning of a run that is over does not go on
not_going : (v : Verdict) (w : MachineVerdict) → machine_verdict v ≡ w → IsOver w → v ≢ verdict_going
not_going v w same over = λ e. absurd (let going : IsOver (machine_verdict v) = subst IsOver (sym same) over in subst (λ u. IsOver (machine_verdict u)) e going)

-- two bounds at which a meaning is over give the same
settled : (meant : ℕ → Meant) → ((t u : ℕ) → t ≤ u → (meant t).verdict ≢ verdict_going → meant u ≡ meant t) → (t u : ℕ) → (meant t).verdict ≢ verdict_going → (meant u).verdict ≢ verdict_going → meant t ≡ meant u
settled meant final t u over over' = sym (final t (t + u) (omega arith) over) ∙ final u (t + u) (omega arith) over'

within : (meant : ℕ → Meant) (run : Ran) (n : ℕ) → ((t u : ℕ) → t ≤ u → (meant t).verdict ≢ verdict_going → meant u ≡ meant t) → AgreesWithin meant run n → (t : ℕ) → (meant t).verdict ≢ verdict_going → IsEnough n (meant t).units → IsOver run.verdict × SameEnd run (meant t)
within meant run n final agrees t over enough =
    let ends : IsOver run.verdict = is_over run.verdict agrees.no_fault (λ e. over (agrees.spent e t enough)) in
    let same : SameEnd run (meant n) = agrees.same_end ends in
    let over' : (meant n).verdict ≢ verdict_going = not_going (meant n).verdict run.verdict same.verdict ends in
    (ends, subst (λ m. SameEnd run m) (settled meant final n t over' over) same)

pub meaning_is_run : MeaningIsRun
meaning_is_run meaning image final agrees input folder n t over enough = within (meaning input folder) (machine_run image input folder n) n (final input folder) (agrees input folder n) t over enough
