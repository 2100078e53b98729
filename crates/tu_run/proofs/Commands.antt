-- What each command answers, put together from what it did.
use Rattle.std.proofs.Common.{◌≡◌, ◌≢◌, ℕ, ◌≤◌, Bool, true, false, ◌||◌, ◌⊎◌, inl, inr, List, Ok, Err, refl, ap, sym, ◌∙◌, subst, arith}
use Rattle.std.specs.Prelude.{Option, Some, None}
use Rattle.tu_base.specs.Files.{Files}
use Rattle.tu_base.specs.declared.event.Event.{Event}
use Rattle.tu_outside.specs.Causes.{Rose}
use Rattle.tu_outside.specs.Files.{with_file}
use Rattle.rv_image.specs.Picture.{Picture, spelling}
use Rattle.rv_image.specs.Streams.{Holding}
use Rattle.rv_image.specs.Run.{machine_run}
use Rattle.tu_token.specs.Rules.{r-program}
use Rattle.tu_token.specs.Syntax.{Of}
use Rattle.tu_tree_meaning.specs.Programs.{meaning}
use Rattle.tu_tree_meaning.specs.Laws.{IsFinal}
use Rattle.tu_agree.specs.Laws.{MeaningIsRun}
use Rattle.tu_run.specs.declared.report.Report.{Report}
use Rattle.tu_run.specs.declared.report.Status.{Status}
use Rattle.tu_run.specs.declared.report.Status.TheVariants.{Ended, Stopped, Refused, Usage, NoFile, BadImage, Spent, ConsoleFault, CabinetFault, NoteFault, OutOfMemory, MachineFault}
use Rattle.tu_run.specs.Outside.{Outside, Tells, HoldsFile}
use Rattle.tu_run.specs.Ran.{RunsImage, verdict_shown}
use Rattle.tu_run.specs.Answer.{Exactly, IsAcceptedSource, IsCompiled, AnswersSource, AnswersImage, AnswersRun, AnswersCheck, AnswersBuild, AnswersExec, AnswersAny, is_of_run, is_of_source, is_of_image, is_of_files, yields_to}
use Rattle.tu_run.specs.Made.{ReadsSource, MakesImage, ReadsImage}
use Rattle.tu_run.proofs.Verdicts.{shown_by}
use Rattle.tu_run.proofs.Meant.{leaves_meant}

or_left : (a b : Bool) → a ≡ true → (a || b) ≡ true
or_left true b e = refl
or_left false b e = absurd (cc e)

or_right : (a b : Bool) → b ≡ true → (a || b) ≡ true
or_right true b e = refl
or_right false b e = e

-- the same cause for another status that is not looked for
apart : (status reached : Status) (cause : Type 0) → is_of_run status ≡ false → is_of_run reached ≡ true → Exactly status Ended cause → Exactly status reached cause
apart status reached cause off on e = record {
  only = λ same. absurd (let f : is_of_run reached ≡ is_of_run status = ap is_of_run same in cc (on, off, f));
  always = λ holds y. absurd (let same : Ended ≡ status = e.always holds refl in let f : is_of_run Ended ≡ is_of_run status = ap is_of_run same in cc (off, f));
}

-- the outside behind a fetch
abbrev pub behind_fetch : Outside → Option Files → ℕ → Outside
behind_fetch before files faults = record { left = before.left; events = before.events; files = files; console_faults = before.console_faults; cabinet_faults = faults }

-- the same of the outside before the fetch
runs_before : (image : Picture) (budget : ℕ) (before after : Outside) (status : Status) (count : ℕ) (files : Option Files) (faults : ℕ) → files ≡ before.files → RunsImage image budget (behind_fetch before files faults) after status count →
    RunsImage image budget before after status count
runs_before image budget before after status count files faults same r = record {
  told = λ input events known t. r.told input events known (record { left = t.left; done = t.done; kept = same ∙ t.kept });
  within = r.within;
  spent = r.spent;
}

run_or_source : (status : Status) → (is_of_source status || is_of_files status) ≡ true → (is_of_run status || is_of_source status) ≡ true
run_or_source Ended e = refl
run_or_source (Stopped kind line) e = refl
run_or_source (Refused refusal) e = refl
run_or_source Usage e = absurd (cc e)
run_or_source NoFile e = refl
run_or_source (BadImage error) e = absurd (cc e)
run_or_source Spent e = refl
run_or_source ConsoleFault e = refl
run_or_source CabinetFault e = refl
run_or_source NoteFault e = absurd (cc e)
run_or_source OutOfMemory e = refl
run_or_source (MachineFault kind pc) e = refl

run_or_image : (status : Status) → (is_of_image status || is_of_files status) ≡ true → (is_of_run status || is_of_image status) ≡ true
run_or_image Ended e = refl
run_or_image (Stopped kind line) e = refl
run_or_image (Refused refusal) e = absurd (cc e)
run_or_image Usage e = absurd (cc e)
run_or_image NoFile e = refl
run_or_image (BadImage error) e = refl
run_or_image Spent e = refl
run_or_image ConsoleFault e = refl
run_or_image CabinetFault e = refl
run_or_image NoteFault e = absurd (cc e)
run_or_image OutOfMemory e = refl
run_or_image (MachineFault kind pc) e = refl

files_run : (status : Status) → is_of_files status ≡ true → (is_of_run status ≡ true) × (yields_to status ≡ true)
files_run Ended e = absurd (cc e)
files_run (Stopped kind line) e = absurd (cc e)
files_run (Refused refusal) e = absurd (cc e)
files_run Usage e = absurd (cc e)
files_run NoFile e = absurd (cc e)
files_run (BadImage error) e = absurd (cc e)
files_run Spent e = absurd (cc e)
files_run ConsoleFault e = absurd (cc e)
files_run CabinetFault e = (refl, refl)
files_run NoteFault e = absurd (cc e)
files_run OutOfMemory e = (refl, refl)
files_run (MachineFault kind pc) e = absurd (cc e)

-- a status is Ended, or it is not
is_ended : (status : Status) → (status ≡ Ended) ⊎ (status ≢ Ended)
is_ended Ended = inl refl
is_ended (Stopped kind line) = inr (λ e. cc e)
is_ended (Refused refusal) = inr (λ e. cc e)
is_ended Usage = inr (λ e. cc e)
is_ended NoFile = inr (λ e. cc e)
is_ended (BadImage error) = inr (λ e. cc e)
is_ended Spent = inr (λ e. cc e)
is_ended ConsoleFault = inr (λ e. cc e)
is_ended CabinetFault = inr (λ e. cc e)
is_ended NoteFault = inr (λ e. cc e)
is_ended OutOfMemory = inr (λ e. cc e)
is_ended (MachineFault kind pc) = inr (λ e. cc e)

kept_runs : (status : Status) → (status ≢ Ended → is_of_files status ≡ true) → is_of_run status ≡ true
kept_runs status kind = elim (is_ended status) [ inl e ↦ ap is_of_run e | inr off ↦ (files_run status (kind off)).0 ]

kept_unless : (status : Status) → (status ≢ Ended → is_of_files status ≡ true) → yields_to status ≡ false → status ≡ Ended
kept_unless status kind y = elim (is_ended status) [ inl e ↦ e | inr off ↦ absurd (let f = (files_run status (kind off)).1 in cc (f, y)) ]

shown_verdict : (image other : Picture) (budget : ℕ) (before after : Outside) (status : Status) (count : ℕ) (input : List ℕ) (events : List Event) (files : Files) → image ≡ other → is_of_run status ≡ true → yields_to status ≡ false →
    Tells before input events files → RunsImage image budget before after status count → verdict_shown status ≡ Some (machine_run other input (Holding files) budget).verdict
shown_verdict image other budget before after status count input events files same on y t r =
    let s = shown_by status on y in
    let whole = (r.told input events files t).verdict_leaves_all s.verdict s.is in
    s.is ∙ ap Some (sym whole.ends ∙ ap (λ p. (machine_run p input (Holding files) budget).verdict) same)

-- a report with an image that was made
pub made_source : (file : List ℕ) (before : Outside) (report : Report) (image : Picture) → MakesImage before.files file (Ok image) → is_of_run report.status ≡ true → AnswersSource file before report
made_source file before report image m on = record {
  no_file = λ files known. apart NoFile report.status _ refl on (m.read.no_file files known);
  refused = λ source refusal h. apart (Refused refusal) report.status _ refl on (m.read.refused source refusal h);
  no_memory = λ refusal e. absurd (let f : is_of_run report.status ≡ false = ap is_of_run e in cc (on, f));
}

compiled_as : (file : List ℕ) (told : Option Files) (image : Picture) → MakesImage told file (Ok image) → (source : List ℕ) → HoldsFile told file source → IsCompiled source image
compiled_as file told image m source h = let a = (m.read.ended source h).only refl in record { tree = a.0; accepted = a.1; image_agrees = m.all source image a.0 h refl a.1 }

pub made_image : (file : List ℕ) (before : Outside) (report : Report) (image : Picture) → MakesImage before.files file (Ok image) → report.image ≡ Some image → AnswersImage file before report
made_image file before report image m is = record {
  image_agrees = λ files other known e.
      let same : image ≡ other = cc (is, e) in
      let found = m.there files image known refl in
      (found.0, found.1, subst (λ p. IsCompiled found.0 p) same (compiled_as file before.files image m found.0 (record { files = files; known = known; found = found.1 })));
  has_image = λ source h a y none. cc (is, none);
}

-- a report of a source of which no image was made
pub none_source : {A : Type 0} (file : List ℕ) (before : Outside) (status : Status) → ReadsSource {A = A} before.files file (Err status) → AnswersSource file before (record { status = status; image = None; instructions = 0 })
none_source file before status r = record { no_file = r.no_file; refused = r.refused; no_memory = λ refusal e. r.no_memory refusal (ap Err e) }

fails_not_ended : (status : Status) → (is_of_source status || is_of_files status) ≡ true → status ≡ Ended → ⊥
fails_not_ended status k e = let f : (is_of_source status || is_of_files status) ≡ false = ap (λ s. is_of_source s || is_of_files s) e in cc (k, f)

-- an accepted source gives way only to a status to which all yield
accepted_yields : {A : Type 0} (told : Option Files) (file source : List ℕ) (status : Status) → ReadsSource {A = A} told file (Err status) → HoldsFile told file source → IsAcceptedSource source → yields_to status ≡ false → ⊥
accepted_yields told file source status r h a y = fails_not_ended status (r.kind status refl) ((r.ended source h).always a y)

pub none_image : (file : List ℕ) (before : Outside) (status : Status) → MakesImage before.files file (Err status) → AnswersImage file before (record { status = status; image = None; instructions = 0 })
none_image file before status m = record {
  image_agrees = λ files other known e. absurd (cc e);
  has_image = λ source h a y none. accepted_yields before.files file source status m.read h a y;
}

pub run_answers : MeaningIsRun → ((tree : Of r-program) → IsFinal (meaning tree)) → (file : List ℕ) (budget : ℕ) (before after : Outside) (report : Report) (image : Picture) (files : Option Files) (faults : ℕ) →
    MakesImage before.files file (Ok image) → files ≡ before.files → report.image ≡ Some image → is_of_run report.status ≡ true →
    RunsImage image budget (behind_fetch before files faults) after report.status report.instructions → AnswersRun file budget before after report
run_answers law final file budget before after report image files faults m same is on r = record {
  kind = or_left (is_of_run report.status) (is_of_source report.status) on;
  source = made_source file before report image m on;
  made = made_image file before report image m is;
  image_shows = λ none. absurd (cc (is, none));
  console_of_image = λ _ none. cc (is, none);
  untouched = λ none. absurd (cc (is, none));
  run_of_image = λ other e.
      let eq : image ≡ other = cc (is, e) in
      subst (λ i. RunsImage i budget before after report.status report.instructions) eq (runs_before image budget before after report.status report.instructions files faults same r);
  leaves = λ source tree h a input events known t y.
      let s = shown_by report.status on y in
      let whole = ((runs_before image budget before after report.status report.instructions files faults same r).told input events known t).verdict_leaves_all s.verdict s.is in
      leaves_meant law (meaning tree) (final tree) image (m.all source image tree h refl a) input known budget report.instructions report.status events after s.verdict s.is whole;
}

pub fails_shows : (status : Status) → (is_of_source status || is_of_files status) ≡ true → (verdict_shown status ≡ None) × (status ≢ ConsoleFault)
fails_shows Ended e = absurd (cc e)
fails_shows (Stopped kind line) e = absurd (cc e)
fails_shows (Refused refusal) e = (refl, λ q. cc q)
fails_shows Usage e = absurd (cc e)
fails_shows NoFile e = (refl, λ q. cc q)
fails_shows (BadImage error) e = absurd (cc e)
fails_shows Spent e = absurd (cc e)
fails_shows ConsoleFault e = absurd (cc e)
fails_shows CabinetFault e = (refl, λ q. cc q)
fails_shows NoteFault e = absurd (cc e)
fails_shows OutOfMemory e = (refl, λ q. cc q)
fails_shows (MachineFault kind pc) e = absurd (cc e)

pub read_shows : (status : Status) → (is_of_image status || is_of_files status) ≡ true → (verdict_shown status ≡ None) × (status ≢ ConsoleFault)
read_shows Ended e = absurd (cc e)
read_shows (Stopped kind line) e = absurd (cc e)
read_shows (Refused refusal) e = absurd (cc e)
read_shows Usage e = absurd (cc e)
read_shows NoFile e = (refl, λ q. cc q)
read_shows (BadImage error) e = (refl, λ q. cc q)
read_shows Spent e = absurd (cc e)
read_shows ConsoleFault e = absurd (cc e)
read_shows CabinetFault e = (refl, λ q. cc q)
read_shows NoteFault e = absurd (cc e)
read_shows OutOfMemory e = (refl, λ q. cc q)
read_shows (MachineFault kind pc) e = absurd (cc e)

pub run_failed : (file : List ℕ) (budget : ℕ) (before : Outside) (status : Status) (files : Option Files) (faults : ℕ) → files ≡ before.files → MakesImage before.files file (Err status) →
    AnswersRun file budget before (behind_fetch before files faults) (record { status = status; image = None; instructions = 0 })
run_failed file budget before status files faults same m =
    let k = m.read.kind status refl in
    record {
      kind = run_or_source status k;
      source = none_source file before status m.read;
      made = none_image file before status m;
      image_shows = λ _. (fails_shows status k).0;
      console_of_image = λ e _. (fails_shows status k).1 e;
      untouched = λ _. record { left = refl; events = refl; files = same; none = refl };
      run_of_image = λ other e. absurd (cc e);
      leaves = λ source tree h a input events told t y. absurd (accepted_yields before.files file source status m.read h (tree, a) y);
    }

-- nothing was made, and a fetch may have failed
pub nothing_done : (before : Outside) (status : Status) (files : Option Files) (faults : ℕ) → before.cabinet_faults ≤ faults → status ≢ ConsoleFault →
    (status ≡ CabinetFault → Rose before.cabinet_faults faults) → AnswersAny before (behind_fetch before files faults) (record { status = status; image = None; instructions = 0 })
nothing_done before status files faults later console fault = record {
  none_made = λ _. refl;
  console_fault = λ e. absurd (console e);
  cabinet_fault = fault;
  later = (omega arith, later);
}

pub exec_answers : (file : List ℕ) (budget : ℕ) (before after : Outside) (report : Report) (image : Picture) (files : Option Files) (faults : ℕ) →
    ReadsImage before.files file (Ok image) → files ≡ before.files → report.image ≡ Some image → is_of_run report.status ≡ true →
    RunsImage image budget (behind_fetch before files faults) after report.status report.instructions → AnswersExec file budget before after report
exec_answers file budget before after report image files faults m same is on r = record {
  kind = or_left (is_of_run report.status) (is_of_image report.status) on;
  no_file = λ known e. apart NoFile report.status _ refl on (m.no_file known e);
  bad_image = λ bytes error h e. apart (BadImage error) report.status _ refl on (m.bad_image bytes error h e);
  no_memory = λ e. let f : is_of_run report.status ≡ false = ap is_of_run e in cc (on, f);
  image_is_read = λ told other known e.
      let eq : image ≡ other = cc (is, e) in
      let found = m.there told other known (ap Ok eq) in
      (found.0, found.1, m.is_read found.0 other (record { files = told; known = known; found = found.1 }) (ap Ok eq));
  has_image = λ bytes other h i y. let eq : Ok image ≡ Ok other = m.has_image bytes other h i refl in let s : image ≡ other = cc eq in is ∙ ap Some s;
  image_shows = λ none. absurd (cc (is, none));
  console_of_image = λ _ none. cc (is, none);
  untouched = λ none. absurd (cc (is, none));
  exec_runs_image = λ other e.
      let eq : image ≡ other = cc (is, e) in
      subst (λ i. RunsImage i budget before after report.status report.instructions) eq (runs_before image budget before after report.status report.instructions files faults same r);
  completes = λ bytes other h i input events known t y.
      let eq : Ok image ≡ Ok other = m.has_image bytes other h i refl in
      let s : image ≡ other = cc eq in
      shown_verdict image other budget before after report.status report.instructions input events known s on y t
      (runs_before image budget before after report.status report.instructions files faults same r);
}

pub exec_failed : (file : List ℕ) (budget : ℕ) (before : Outside) (status : Status) (files : Option Files) (faults : ℕ) → files ≡ before.files → ReadsImage before.files file (Err status) →
    AnswersExec file budget before (behind_fetch before files faults) (record { status = status; image = None; instructions = 0 })
exec_failed file budget before status files faults same m =
    let k = m.kind status refl in
    record {
      kind = run_or_image status k;
      no_file = m.no_file;
      bad_image = m.bad_image;
      no_memory = λ e. m.no_memory (ap Err e);
      image_is_read = λ told other known e. absurd (cc e);
      has_image = λ bytes other h i y. absurd (let e : Err status ≡ Ok other = m.has_image bytes other h i y in cc e);
      image_shows = λ _. (read_shows status k).0;
      console_of_image = λ e _. (read_shows status k).1 e;
      untouched = λ _. record { left = refl; events = refl; files = same; none = refl };
      exec_runs_image = λ other e. absurd (cc e);
      completes = λ bytes other h i input events told t y. absurd (let e : Err status ≡ Ok other = m.has_image bytes other h i y in cc e);
    }

pub build_answers : (file name : List ℕ) (before after : Outside) (report : Report) (image : Picture) → MakesImage before.files file (Ok image) → report.image ≡ Some image → report.instructions ≡ 0 →
    (report.status ≢ Ended → is_of_files report.status ≡ true) → (report.status ≡ Ended → after.files ≡ with_file before.files name (spelling image)) → (report.status ≢ Ended → after.files ≡ before.files) →
    after.left ≡ before.left → after.events ≡ before.events → AnswersBuild file name before after report
build_answers file name before after report image m is none kind kept same left events = record {
  kind = λ off. or_right (is_of_source report.status) (is_of_files report.status) (kind off);
  source = made_source file before report image m (kept_runs report.status kind);
  made = made_image file before report image m is;
  ended = λ source h. record {
    only = λ _. (m.read.ended source h).only refl;
    always = λ _ y. kept_unless report.status kind y;
  };
  build_keeps_image = λ e. record { picture = image; is = is; kept = kept e };
  unchanged = same;
  left = left;
  events = events;
  none = none;
}

pub build_failed : (file name : List ℕ) (before after : Outside) (status : Status) → MakesImage before.files file (Err status) → after.files ≡ before.files → after.left ≡ before.left → after.events ≡ before.events →
    AnswersBuild file name before after (record { status = status; image = None; instructions = 0 })
build_failed file name before after status m same left events =
    let k = m.read.kind status refl in
    record {
      kind = λ _. k;
      source = none_source file before status m.read;
      made = none_image file before status m;
      ended = m.read.ended;
      build_keeps_image = λ e. absurd (fails_not_ended status k e);
      unchanged = λ _. same;
      left = left;
      events = events;
      none = refl;
    }

-- a source that was checked, or not
pub check_answers : {A : Type 0} (file : List ℕ) (before : Outside) (files : Option Files) (faults : ℕ) (made : A) → ReadsSource before.files file (Ok made) → files ≡ before.files
    → AnswersCheck file before (behind_fetch before files faults) (record { status = Ended; image = None; instructions = 0 })
check_answers file before files faults made r same = record {
  kind = λ off. absurd (off refl);
  source = record { no_file = r.no_file; refused = r.refused; no_memory = λ refusal e. absurd (cc e) };
  check_accepts = r.ended;
  none_made = refl;
  untouched = record { left = refl; events = refl; files = same; none = refl };
}

pub check_failed : {A : Type 0} (file : List ℕ) (before : Outside) (files : Option Files) (faults : ℕ) (status : Status) → ReadsSource {A = A} before.files file (Err status) → files ≡ before.files
    → AnswersCheck file before (behind_fetch before files faults) (record { status = status; image = None; instructions = 0 })
check_failed file before files faults status r same = record {
  kind = λ _. r.kind status refl;
  source = none_source file before status r;
  check_accepts = r.ended;
  none_made = refl;
  untouched = record { left = refl; events = refl; files = same; none = refl };
}
