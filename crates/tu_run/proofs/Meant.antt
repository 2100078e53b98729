-- A run of an image that agrees with a meaning leaves what is meant.
use Rattle.std.proofs.Common.{◌≡◌, ◌≢◌, ℕ, List, ap, sym, ◌∙◌, subst}
use Rattle.std.specs.Prelude.{Option, Some}
use Rattle.tu_base.specs.declared.event.Event.{Event}
use Rattle.tu_base.specs.Files.{Files}
use Rattle.rv_image.specs.Picture.{Picture}
use Rattle.rv_image.specs.Streams.{Holding}
use Rattle.rv_image.specs.Run.{MachineVerdict, Ended, Stopped, Fault, Going, Ran, machine_run, IsOver}
use Rattle.rv_host.specs.Host.{IsWhole}
use Rattle.tu_tree_meaning.specs.Meaning.{Meant}
use Rattle.tu_tree_meaning.specs.Laws.{Meaning, IsFinal}
use Rattle.tu_agree.specs.Agrees.{Agrees, AgreesWithin, SameEnd, over_folder, files_in}
use Rattle.tu_agree.specs.Laws.{MeaningIsRun}
use Rattle.tu_run.specs.declared.report.Status.{Status}
use Rattle.tu_run.specs.declared.report.Status.TheVariants.{Spent}
use Rattle.tu_run.specs.Outside.{Outside, told_of}
use Rattle.tu_run.specs.Ran.{verdict_shown}
use Rattle.tu_run.specs.Answer.{LeavesMeant, status_of_verdict}
use Rattle.tu_run.proofs.Verdicts.{shows_verdict, shows_going}

-- a run that agrees with a meaning and is not spent is over
over_unless_spent : (meant : ℕ → Meant) (ran : Ran) (n : ℕ) (status : Status) (verdict : MachineVerdict) → AgreesWithin meant ran n → verdict_shown status ≡ Some verdict → ran.verdict ≡ verdict → status ≢ Spent → IsOver verdict
over_unless_spent meant ran n status Ended a shown is not_spent = tt
over_unless_spent meant ran n status (Stopped kind line) a shown is not_spent = tt
over_unless_spent meant ran n status (Fault kind pc) a shown is not_spent = a.no_fault kind pc is
over_unless_spent meant ran n status Going a shown is not_spent = not_spent (shows_going status shown)

-- where a run is over in the same way as a meaning, so says its status
same_status : (status : Status) (verdict : MachineVerdict) (ran : Ran) (meant : Meant) → verdict_shown status ≡ Some verdict → ran.verdict ≡ verdict → SameEnd ran meant → (ran.world.trace ≡ meant.trace) × (status ≡ status_of_verdict meant.verdict)
same_status status verdict ran meant shown is same = (sym same.trace, shows_verdict status meant.verdict (shown ∙ ap Some (sym (same.verdict ∙ is))))

going_when_spent : (status : Status) (verdict : MachineVerdict) → verdict_shown status ≡ Some verdict → status ≡ Spent → verdict ≡ Going
going_when_spent status verdict shown e = let s : verdict_shown status ≡ Some Going = ap verdict_shown e in cc (shown, s)

pub leaves_meant : MeaningIsRun → (m : Meaning (Option Files)) → IsFinal m → (image : Picture) → Agrees (over_folder m) image → (input : List ℕ) (files : Files) (budget count : ℕ) (status : Status) (events : List Event) (after : Outside)
    (verdict : MachineVerdict) → verdict_shown status ≡ Some verdict → IsWhole (machine_run image input (Holding files) budget) verdict count events files (told_of after) → LeavesMeant (m input (Some files)) budget status events files after
leaves_meant law m final image agrees input files budget count status events after verdict shown whole =
    let ran : Ran = machine_run image input (Holding files) budget in
    let a : AgreesWithin (m input (Some files)) ran budget = agrees input (Holding files) budget in
    record {
      done = ran.world.trace;
      shows = whole.shows;
      whole = λ not_spent.
          let over = over_unless_spent (m input (Some files)) ran budget status verdict a shown whole.ends not_spent in
          same_status status verdict ran (m input (Some files) budget) shown whole.ends (a.same_end (subst (λ v. IsOver v) (sym whole.ends) over));
      first_part = a.output.0;
      spent = λ e t enough. a.spent (whole.ends ∙ going_when_spent status verdict shown e) t enough;
      nothing_held_back = a.output.1;
      completes = λ t enough going.
          let r = law (over_folder m) image (λ i f t u. final i (files_in f) t u) agrees input (Holding files) budget t going enough in
          same_status status verdict ran (m input (Some files) t) shown whole.ends r.1;
    }
