-- What a command answers, apart from its note.
--
-- `AnswersRun.leaves` is the headline: what a program means is what its run leaves. The other fields are its parts, and the cause of each status:
-- the image is that of the source in FILE (`made`), what is left is what that image does (`run_of_image`), and without an image nothing is done
-- (`untouched`).
use Rattle.std.specs.Prelude.{◌≡◌, ◌≢◌, ℕ, ◌≤◌, Bool, true, false, ◌||◌, List, Option, Some, None, Err}
use Rattle.std.specs.FinMap as map
use Rattle.tu_base.specs.declared.event.Event.{Event}
use Rattle.tu_base.specs.declared.event.Verdict.{Verdict}
use Rattle.tu_base.specs.declared.event.Verdict.TheVariants.{Ended as verdict_ended, Stopped as verdict_stopped, Going as verdict_going}
use Rattle.tu_base.specs.Files.{Files}
use Rattle.tu_base.specs.Trace.{Trace}
use Rattle.tu_outside.specs.Causes.{Rose}
use Rattle.tu_outside.specs.Files.{with_file}
use Rattle.rv_image.specs.Picture.{Picture, spelling}
use Rattle.rv_image.specs.Streams.{Holding}
use Rattle.rv_image.specs.Run.{machine_run}
use Rattle.rv_image.specs.declared.image.ImageError.{ImageError}
use Rattle.rv_image.specs.declared.image.ImageError.TheVariants.{Memory}
use Rattle.rv_host.specs.Told.{ShowsTrace}
use Rattle.tu_check.specs.declared.refusal.Refusal.{Refusal}
use Rattle.tu_token.specs.Rules.{r-program}
use Rattle.tu_token.specs.Syntax.{Of}
use Rattle.tu_check.specs.Refusals.{IsAccepted, IsRefused}
use Rattle.tu_tree_meaning.specs.Meaning.{Meant}
use Rattle.tu_tree_meaning.specs.Programs.{meaning}
use Rattle.tu_base.specs.Prefix.{IsPrefix}
use Rattle.tu_agree.specs.Agrees.{Agrees, IsEnough, over_folder}
use Rattle.tu_run.specs.Reason.{HasReason}
use Rattle.tu_run.specs.Command.{IsRun, IsCheck, IsBuild, IsExec, IsUsage}
use Rattle.tu_run.specs.ImageFile.{IsImageFile, image_file_reading}
use Rattle.tu_run.specs.Outside.{Outside, Tells, HoldsFile, told_of}
use Rattle.tu_run.specs.Ran.{RunsImage, verdict_shown}
use Rattle.tu_run.specs.declared.report.Report.{Report}
use Rattle.tu_run.specs.declared.report.Status.{Status}
use Rattle.tu_run.specs.declared.report.Status.TheVariants.{Ended, Stopped, Refused, Usage, NoFile, BadImage, Spent, ConsoleFault, CabinetFault, NoteFault, OutOfMemory, MachineFault}

-- the statuses to which each other one yields
abbrev pub yields_to : Status → Bool
yields_to ConsoleFault = true
yields_to CabinetFault = true
yields_to OutOfMemory = true
yields_to other = false

-- a status that a run may come to
abbrev pub is_of_run : Status → Bool
is_of_run Ended = true
is_of_run (Stopped kind line) = true
is_of_run (Refused refusal) = false
is_of_run Usage = false
is_of_run NoFile = false
is_of_run (BadImage error) = false
is_of_run Spent = true
is_of_run ConsoleFault = true
is_of_run CabinetFault = true
is_of_run NoteFault = false
is_of_run OutOfMemory = true
is_of_run (MachineFault kind pc) = true

-- there is no source, or it is refused
abbrev pub is_of_source : Status → Bool
is_of_source (Refused refusal) = true
is_of_source NoFile = true
is_of_source other = false

-- there is no image, or it is a bad one
abbrev pub is_of_image : Status → Bool
is_of_image (BadImage error) = true
is_of_image NoFile = true
is_of_image other = false

-- the cabinet failed, or memory ran out
abbrev pub is_of_files : Status → Bool
is_of_files CabinetFault = true
is_of_files OutOfMemory = true
is_of_files other = false

-- A status comes only where its cause holds; where it holds, no other comes but one to which it yields.
pub record Exactly (status reached : Status) (cause : Type 0) : Type 0 where
  pub only : reached ≡ status → cause
  pub always : cause → yields_to reached ≡ false → reached ≡ status

-- the status that shows the verdict of a meaning
abbrev pub status_of_verdict : Verdict → Status
status_of_verdict verdict_ended = Ended
status_of_verdict (verdict_stopped kind line) = Stopped kind line
status_of_verdict verdict_going = Spent

-- What a run leaves at console and cabinet, and its status, are what is meant within as many turns as the budget has instructions. It is spent
-- only where that needs more units than the budget is enough for, and has then done a first part of it that holds back nothing.
pub record LeavesMeant (meant : ℕ → Meant) (budget : ℕ) (status : Status) (events : List Event) (files : Files) (after : Outside) : Type 0 where
  -- all that was done
  pub done : Trace
  pub shows : ShowsTrace events files done (told_of after)
  pub whole : status ≢ Spent → (done ≡ (meant budget).trace) × (status ≡ status_of_verdict (meant budget).verdict)
  pub first_part : IsPrefix done (meant budget).trace
  pub spent : status ≡ Spent → (t : ℕ) → IsEnough budget (meant t).units → (meant t).verdict ≡ verdict_going
  pub nothing_held_back : (t : ℕ) → IsEnough budget (meant t).units → IsPrefix (meant t).trace done
  -- No giving up: where it is over within units that the budget is enough for, the run is over with the same trace and verdict. This follows
  -- from `spent` and `whole`, as what a meaning that is over has done is the same at every larger number of turns.
  pub completes : (t : ℕ) → IsEnough budget (meant t).units → (meant t).verdict ≢ verdict_going → (done ≡ (meant t).trace) × (status ≡ status_of_verdict (meant t).verdict)

-- the source is accepted as some tree
abbrev pub IsAcceptedSource : List ℕ → Type 0
IsAcceptedSource source = (tree : Of r-program) × IsAccepted source tree

-- the image agrees with the program that the source is
pub record IsCompiled (source : List ℕ) (image : Picture) : Type 0 where
  pub tree : Of r-program
  pub accepted : IsAccepted source tree
  pub image_agrees : Agrees (over_folder (meaning tree)) image

-- nothing was read, written or changed
pub record IsUntouched (before after : Outside) (count : ℕ) : Type 0 where
  pub left : after.left ≡ before.left
  pub events : after.events ≡ before.events
  pub files : after.files ≡ before.files
  pub none : count ≡ 0

-- What the source in FILE comes to, for `run`, `check` and `build`.
pub record AnswersSource (file : List ℕ) (before : Outside) (report : Report) : Type 0 where
  pub no_file : (files : Files) → before.files ≡ Some files → Exactly NoFile report.status (map.get files file ≡ None)
  pub refused : (source : List ℕ) (refusal : Refusal) → HoldsFile before.files file source → Exactly (Refused refusal) report.status (IsRefused source refusal)
  -- want of memory is no refusal, whatever the cabinet tells
  pub no_memory : (refusal : Refusal) → report.status ≡ Refused refusal → HasReason refusal

-- The image of the source in FILE, for `run` and `build`. Where the cabinet tells its files, there is an image only of a FILE that is one of
-- them, and it agrees with the source in it, which is then accepted. There is one for each accepted source, unless the answer is one to which
-- all yield.
pub record AnswersImage (file : List ℕ) (before : Outside) (report : Report) : Type 0 where
  pub image_agrees : (files : Files) (image : Picture) → before.files ≡ Some files → report.image ≡ Some image → (source : List ℕ) × (map.get files file ≡ Some source) × IsCompiled source image
  pub has_image : (source : List ℕ) → HoldsFile before.files file source → IsAcceptedSource source → yields_to report.status ≡ false → report.image ≢ None

-- `run FILE [budget=N]`
pub record AnswersRun (file : List ℕ) (budget : ℕ) (before after : Outside) (report : Report) : Type 0 where
  pub kind : (is_of_run report.status || is_of_source report.status) ≡ true
  pub source : AnswersSource file before report
  pub made : AnswersImage file before report
  -- without an image no verdict is shown, the console is not asked, and nothing was done
  pub image_shows : report.image ≡ None → verdict_shown report.status ≡ None
  pub console_of_image : report.status ≡ ConsoleFault → report.image ≢ None
  pub untouched : report.image ≡ None → IsUntouched before after report.instructions
  pub run_of_image : (image : Picture) → report.image ≡ Some image → RunsImage image budget before after report.status report.instructions
  -- what the program means is left
  pub leaves : (source : List ℕ) (tree : Of r-program) → HoldsFile before.files file source → IsAccepted source tree →
      (input : List ℕ) (events : List Event) (files : Files) → Tells before input events files → yields_to report.status ≡ false →
      LeavesMeant (meaning tree input (Some files)) budget report.status events files after

-- `check FILE`
pub record AnswersCheck (file : List ℕ) (before after : Outside) (report : Report) : Type 0 where
  pub kind : report.status ≢ Ended → (is_of_source report.status || is_of_files report.status) ≡ true
  pub source : AnswersSource file before report
  pub check_accepts : (source : List ℕ) → HoldsFile before.files file source → Exactly Ended report.status (IsAcceptedSource source)
  -- nothing is made, and nothing runs or changes
  pub none_made : report.image ≡ None
  pub untouched : IsUntouched before after report.instructions

-- an image was made, and its bytes were kept as a file
pub record KeepsImage (image : List ℕ) (before after : Outside) (made : Option Picture) : Type 0 where
  pub picture : Picture
  pub is : made ≡ Some picture
  pub kept : after.files ≡ with_file before.files image (spelling picture)

-- `build FILE IMAGE`
pub record AnswersBuild (file image : List ℕ) (before after : Outside) (report : Report) : Type 0 where
  pub kind : report.status ≢ Ended → (is_of_source report.status || is_of_files report.status) ≡ true
  pub source : AnswersSource file before report
  pub made : AnswersImage file before report
  pub ended : (source : List ℕ) → HoldsFile before.files file source → Exactly Ended report.status (IsAcceptedSource source)
  pub build_keeps_image : report.status ≡ Ended → KeepsImage image before after report.image
  pub unchanged : report.status ≢ Ended → after.files ≡ before.files
  -- nothing runs
  pub left : after.left ≡ before.left
  pub events : after.events ≡ before.events
  pub none : report.instructions ≡ 0

-- `exec IMAGE [budget=N]`
pub record AnswersExec (image : List ℕ) (budget : ℕ) (before after : Outside) (report : Report) : Type 0 where
  pub kind : (is_of_run report.status || is_of_image report.status) ≡ true
  pub no_file : (files : Files) → before.files ≡ Some files → Exactly NoFile report.status (map.get files image ≡ None)
  -- the first condition that fails, and never want of memory
  pub bad_image : (bytes : List ℕ) (error : ImageError) → HoldsFile before.files image bytes → error ≢ Memory → Exactly (BadImage error) report.status (image_file_reading bytes ≡ Err error)
  pub no_memory : report.status ≢ BadImage Memory
  -- Where the cabinet tells its files, there is an image only of an IMAGE that is one of them, and it is the one that its bytes are. There is
  -- one where they are one, unless the answer is one to which all yield.
  pub image_is_read : (files : Files) (picture : Picture) → before.files ≡ Some files → report.image ≡ Some picture → (bytes : List ℕ) × (map.get files image ≡ Some bytes) × IsImageFile bytes picture
  pub has_image : (bytes : List ℕ) (picture : Picture) → HoldsFile before.files image bytes → IsImageFile bytes picture → yields_to report.status ≡ false → report.image ≡ Some picture
  -- without an image no verdict is shown, the console is not asked, and nothing was done
  pub image_shows : report.image ≡ None → verdict_shown report.status ≡ None
  pub console_of_image : report.status ≡ ConsoleFault → report.image ≢ None
  pub untouched : report.image ≡ None → IsUntouched before after report.instructions
  pub exec_runs_image : (picture : Picture) → report.image ≡ Some picture → RunsImage picture budget before after report.status report.instructions
  -- no giving up: the status shows the run's verdict
  pub completes : (bytes : List ℕ) (picture : Picture) → HoldsFile before.files image bytes → IsImageFile bytes picture →
      (input : List ℕ) (events : List Event) (files : Files) → Tells before input events files → yields_to report.status ≡ false →
      verdict_shown report.status ≡ Some (machine_run picture input (Holding files) budget).verdict

-- What holds of each command.
pub record AnswersAny (before after : Outside) (report : Report) : Type 0 where
  -- with a status to which no run comes, as after a refusal, no image was made
  pub none_made : is_of_run report.status ≡ false → report.image ≡ None
  -- faults come only where a count rose
  pub console_fault : report.status ≡ ConsoleFault → Rose before.console_faults after.console_faults
  pub cabinet_fault : report.status ≡ CabinetFault → Rose before.cabinet_faults after.cabinet_faults
  pub later : (before.console_faults ≤ after.console_faults) × (before.cabinet_faults ≤ after.cabinet_faults)

-- Words that are no command: nothing is done.
pub record AnswersUsage (before after : Outside) (report : Report) : Type 0 where
  pub is : report.status ≡ Usage
  pub untouched : IsUntouched before after report.instructions

pub record Answers (words : List (List ℕ)) (before after : Outside) (report : Report) : Type 0 where
  -- Usage comes exactly for words that are no command, and yields to nothing
  pub usage : report.status ≡ Usage → IsUsage words
  pub is_usage : IsUsage words → AnswersUsage before after report
  pub run : (file : List ℕ) (budget : ℕ) → IsRun words file budget → AnswersRun file budget before after report
  pub check : (file : List ℕ) → IsCheck words file → AnswersCheck file before after report
  pub build : (file image : List ℕ) → IsBuild words file image → AnswersBuild file image before after report
  pub exec : (image : List ℕ) (budget : ℕ) → IsExec words image budget → AnswersExec image budget before after report
  pub any : AnswersAny before after report
