-- The image of code with places keeps what the code means.
use Rattle.std.proofs.Common.{◌≡◌, ℕ, ◌≤◌, List, [], ◌∷◌, length, refl, sym, subst, ◌∙◌, arith}
use Rattle.std.specs.Prelude.{IsSomeAnd, slice_get}
use Rattle.rv_image.specs.Picture.{Picture}
use Rattle.rv_image.specs.Run.{Going as machine_going, Ran, machine_run}
use Rattle.ir_form.specs.Place.{IsPlace}
use Rattle.ir_form.specs.State.{Verdict, Going, begun}
use Rattle.ir_form.specs.Units.{Meant}
use Rattle.rv_flat.specs.declared.linear.LinearRoutine.{LinearRoutine}
use Rattle.rv_flat.specs.Units.{linear_run}
use Rattle.rv_alloc.specs.declared.assigned.Assigned.{Assigned}
use Rattle.rv_alloc.specs.Assigned.{placed_code, assigned_meaning}
use Rattle.rv_text.specs.Text.{text_of, place_of_image}
use Rattle.rv_text.specs.Agrees.{code_verdict, RunAgrees}
use Rattle.rv_emit.specs.Ready.{IsReadyToEmit, AgreesWith, TextIsBounded}
use Rattle.tu_agree.specs.Keep.{KeepsRun, KeepsInstructions}
use Rattle.tu_agree.specs.Outcomes.{CodeOutcome, outcome_ran, image_meant}
use Rattle.tu_compile.specs.Meant.{outcome_of, assigned_meant}
use Rattle.tu_compile.specs.Ready.{IsReadyAssigned}
use Rattle.tu_compile.proofs.Faults.{tests_places}

goes_on : (v : Verdict) → v ≡ Going → code_verdict v ≡ machine_going
goes_on v e = subst (λ w. code_verdict w ≡ machine_going) (sym e) refl

keeps_run : (n : ℕ) (rounds : (t s : ℕ) → ℕ) (meant : (t s : ℕ) → Meant) (r : Ran) → RunAgrees n meant r → KeepsRun 1 12 n (λ t s. outcome_of (rounds t s) (meant t s)) (outcome_ran r)
keeps_run n rounds meant r h = record {
  same_end = λ o. record { least = n; holds = λ s le. let x = h.same_end o s le in record { trace = sym x.trace; verdict = sym x.verdict } };
  no_fault = h.no_fault;
  spent = λ e t. record { least = 0; holds = λ s le enough. goes_on (meant t s).verdict (h.spent e t s (omega arith)) };
  nothing_else = record { least = n; holds = λ s le. h.nothing_else s le };
  nothing_held_back = λ t. record { least = 0; holds = λ s le enough. h.nothing_held_back t s (omega arith) };
  covers = omega arith;
  paid = h.paid;
}

-- at the place where the image has it
pub keeps_image : (a : Assigned) (image : Picture) → IsPlace (place_of_image (placed_code a)) (length a.linear.texts) → AgreesWith a image → KeepsInstructions 1 12 (assigned_meant a) (image_meant image)
keeps_image a image place h =
    let p = place_of_image (placed_code a) in
    record {
      first_global = p.globals_at;
      texts_at = p.texts_at;
      fits = (tests_places (length a.linear.texts) p.globals_at p.texts_at).1 place;
      run = λ any_global any_text input folder n any_round. keeps_run n (λ t s. begun t s (linear_run (placed_code a) p input folder t s).state) (λ t s. assigned_meaning a p input folder t s) (machine_run image input folder n) (h input folder n);
    }

-- what is ready for this pass is ready to be emitted
pub is_emitted : (a : Assigned) → IsReadyAssigned a → IsReadyToEmit a
is_emitted a h = record { lawful = h.lawful; unguarded = h.unguarded; places = h.places; slots = h.slots; room = h.room }

-- where one routine is there, there are routines
some_routine : (P : LinearRoutine → Type 0) (rs : List LinearRoutine) (i : ℕ) → IsSomeAnd (slice_get rs i) P → 1 ≤ length rs
some_routine P [] i h = absurd h
some_routine P (r ∷ rs) i h = omega arith

-- the words of the code and of its literals are few enough
pub few_words : (a : Assigned) → IsReadyAssigned a → TextIsBounded → length (text_of (placed_code a)) ≤ 16777216
few_words a h bounded =
    let there = some_routine _ a.linear.routines a.linear.main h.lawful.sound.main in
    let s = bounded a there in
    let t = h.size in
    let u = h.texts in
    omega arith
