-- The image of linear code does what it means.
use Rattle.std.proofs.Common.{◌≡◌, ◌≢◌, ℕ, ◌≤◌, List, refl, arith, ap, sym, ◌∙◌, subst}
use Rattle.std.proofs.lemmas.List.Elements.{All-weaker}
use Rattle.rv_isa.specs.declared.service.FaultKind.{FaultKind}
use Rattle.rv_isa.specs.Step.{Cpu}
use Rattle.rv_image.specs.Start.{start_cpu}
use Rattle.rv_image.specs.Streams.{World, Folder, start_world, Over, AtItsEnd, StoppedBy}
use Rattle.rv_image.specs.Run.{Fault, Going, IsOver, Ran, verdict_of as verdict_of_run}
use Rattle.rv_runs.specs.Moments.{Ground, Moment, Live, Finished, Broken, later}
use Rattle.tu_base.specs.Prefix.{IsPrefix}
use Rattle.rv_runs.specs.Laws.{Shows, run_on, world_at, verdict_at}
use Rattle.rv_runs.proofs.Comes.{comes_then}
use Rattle.rv_runs.proofs.Stretches.{run_shows, underway}
use Rattle.ir_form.specs.State.{Verdict}
use Rattle.ir_form.specs.Plain.{verdict_of}
use Rattle.ir_form.specs.Units.{Meant}
use Rattle.rv_flat.specs.declared.linear.LinearRoutine.{LinearRoutine}
use Rattle.rv_flat.specs.declared.linear.Linear.{Linear}
use Rattle.rv_flat.specs.Parts.{HasItsLabels}
use Rattle.rv_flat.specs.Units.{linear_meaning}
use Rattle.rv_frames.specs.Frames.{ticks, spent, first}
use Rattle.rv_frames.specs.Follows.{HasAllLabels}
use Rattle.rv_frames.specs.InStep.{StandsAs, KeepsStep, RunsAsMeant}
use Rattle.rv_frames.proofs.InStep.{steps_are_meant}
use Rattle.rv_text.specs.Text.{image_of, place_of_image}
use Rattle.rv_layout.specs.Ready.{IsReadyRoutine}
use Rattle.rv_text.specs.Ready.{IsReady}
use Rattle.rv_text.specs.Agrees.{code_verdict, SameAnswer, most_extra, RunAgrees, ImagesAgree, ImagesAreInRange, ImagesArePlaces}
use Rattle.rv_layout.specs.Held.{Same}
use Rattle.rv_text.proofs.Placed.{layout_of}
use Rattle.rv_text.proofs.Settled.{ground_of, setting_of_image, settled, text_length}
use Rattle.rv_layout.proofs.Chain.{ticks_lock, stands_as}
use Rattle.rv_text.proofs.Start.{starts}

-- the verdict where a host ends a run
ended_so : (how : Over) (v : Verdict) → v ≡ verdict_of how → code_verdict v ≡ verdict_of_run how
ended_so AtItsEnd v e = ap code_verdict e
ended_so (StoppedBy kind line) v e = ap code_verdict e

-- a run by how it stands after its instructions
module _ (g : Ground) (n : ℕ) (c : Cpu) (w : World) (meant : (t s : ℕ) → Meant) (is : RunsAsMeant most_extra n meant (later g n (Live c w))) where
  abbrev r : Ran
  r = run_on g n 0 c w

  abbrev now : Moment
  now = later g n (Live c w)

  shows : Shows r now
  shows = run_shows g n 0 c w

  end_at : (m : Moment) → now ≡ m → IsOver (verdict_at m) → (s : ℕ) → n ≤ s → SameAnswer r (meant n s)
  end_at (Live d x) e h s le = absurd h
  end_at (Broken why pc x) e h s le = absurd h
  end_at (Finished how x) e h s le =
      let m = is.same_end how x e s le in
      record { trace = m.trace ∙ ap (λ (v : World). v.trace) (sym (shows.world ∙ ap world_at e)); verdict = ended_so how (meant n s).verdict m.verdict ∙ sym (shows.verdict ∙ ap verdict_at e) }

  not_faulty : (m : Moment) (kind : FaultKind) (pc : ℕ) → now ≡ m → verdict_at m ≢ Fault kind pc
  not_faulty (Live d x) kind pc e q = cc
  not_faulty (Finished AtItsEnd x) kind pc e q = cc
  not_faulty (Finished (StoppedBy k line) x) kind pc e q = cc
  not_faulty (Broken why at x) kind pc e q = is.no_fault why at x e

  -- a run that goes on is in between
  live_at : (m : Moment) → now ≡ m → verdict_at m ≡ Going → (d : Cpu) × (x : World) × (now ≡ Live d x)
  live_at (Live d x) e q = (d, x, e)
  live_at (Finished AtItsEnd x) e q = absurd (cc)
  live_at (Finished (StoppedBy k line) x) e q = absurd (cc)
  live_at (Broken why at x) e q = absurd (cc)

  live : r.verdict ≡ Going → (d : Cpu) × (x : World) × (now ≡ Live d x)
  live q = live_at now refl (sym shows.verdict ∙ q)

  pub run_agrees : RunAgrees n meant r
  run_agrees = record {
    same_end = λ h s le. end_at now refl (subst IsOver shows.verdict h) s le;
    no_fault = λ kind pc q. not_faulty now kind pc refl (sym shows.verdict ∙ q);
    spent = λ q t s le. let d = live q in is.spent d.0 d.1 d.2 t s le;
    nothing_else = λ s le. subst (λ (v : World). IsPrefix v.trace (meant n s).trace) (sym shows.world) (is.nothing_else s le);
    nothing_held_back = λ t s le. subst (λ (v : World). IsPrefix (meant t s).trace v.trace) (sym shows.world) (is.nothing_held_back t s le);
    paid = λ q. let d = live q in (underway g n n 0 c d.0 w d.1 d.2 (omega arith)).counted ∙ omega arith;
  }

-- the start, and ticks
keeps_step : (l : Linear) → IsReady l → (folder : Folder) (input : List ℕ) → KeepsStep (ground_of l folder) (setting_of_image l folder) l most_extra (first (setting_of_image l folder) l input) (Live (start_cpu (image_of l)) (start_world input))
keeps_step l ready folder input count =
    let g = ground_of l folder in
    let gs = setting_of_image l folder in
    let m = first gs l input in
    let laid = settled l folder ready.size ready.code.sound.globals in
    let c = comes_then g 0 12 count (spent gs l count m) (Live (start_cpu (image_of l)) (start_world input)) (Same g gs l (layout_of l) m) (StandsAs (ticks gs l count m)) (starts l folder input ready) (λ x h.
    let t = ticks_lock g gs l (layout_of l) laid refl ready.code count m x h in
    record { count = t.count; low = t.low; high = t.high; there = stands_as g gs l (layout_of l) laid refl ready.code (ticks gs l count m) (later g t.count x) t.there }) in
    record { count = c.count; low = let z = c.low in omega arith; high = let z = c.high in omega arith; there = c.there }

has_labels : (l : Linear) → IsReady l → HasAllLabels l
has_labels l ready = All-weaker IsReadyRoutine (λ (r : LinearRoutine). HasItsLabels r.code) (λ r h. h.labels) l.routines ready.code.routines

pub images_agree : ImagesAgree
images_agree l ready fine input folder n =
    run_agrees (ground_of l folder) n (start_cpu (image_of l)) (start_world input) (λ t s. linear_meaning l (place_of_image l) input folder t s)
    (steps_are_meant (ground_of l folder) l (place_of_image l) input folder most_extra (Live (start_cpu (image_of l)) (start_world input)) (has_labels l ready) (fine input folder) (keeps_step l ready folder input) n)

pub images_in_range : ImagesAreInRange
images_in_range l ready =
    let n = text_length l in
    record { size = ready.size; aligned = refl; within = omega arith; globals = ready.code.sound.globals }

pub images_are_places : ImagesArePlaces
images_are_places l ready =
    let n = text_length l in
    let size = ready.size in
    record { globals_aligned = omega arith; globals_low = omega arith; globals_high = omega arith; texts_aligned = omega arith; texts_low = omega arith; texts_high = omega arith }
