-- An image that ends at once.
use Rattle.std.proofs.Common.{◌≡◌, ℕ, zero, suc, List, [], refl, sym, subst, arith}
use Rattle.rv_isa.specs.Encoding.{decoding}
use Rattle.rv_isa.specs.Step.{with_any, step}
use Rattle.rv_image.specs.Start.{no_registers}
use Rattle.rv_image.specs.Streams.{Folder, start_world}
use Rattle.rv_image.specs.Run.{Ended, Going, machine_run, run}
use Rattle.tu_tree_meaning.specs.Steps.{give}
use Rattle.tu_tree_meaning.specs.Programs.{meaning}
use Rattle.tu_base.specs.Prefix.{IsPrefix}
use Rattle.tu_agree.specs.Agrees.{over_folder}
use Rattle.tu_agree.specs.Outcomes.{CodeOutcome, outcome_ran, program_meant, image_meant}
use Rattle.tu_agree.specs.Keep.{Eventually, KeepsRun, KeepsInstructions}
use Rattle.tu_agree.specs.Example.{empty_program, stands, halting}

halts : (input : List ℕ) (folder : Folder) (n : ℕ) → machine_run halting input folder (suc n) ≡ record { verdict = Ended; count = 1; world = start_world input }
unfolding run step decoding with_any no_registers
halts input folder n = refl

begins : (input : List ℕ) (folder : Folder) → machine_run halting input folder 0 ≡ record { verdict = Going; count = 0; world = start_world input }
unfolding run
begins input folder = refl

-- what a program without statements comes to
ended : CodeOutcome
ended = stands Ended 0 0

empty : IsPrefix {A = _} ended.trace ended.trace
unfolding ended
empty = record { rest = []; is = refl }

always : (P : ℕ → Type 0) → ((s : ℕ) → P s) → Eventually P
always P h = record { least = 0; holds = λ s le. h s }

keeps_run : (input : List ℕ) (folder : Folder) (n : ℕ) → KeepsRun 1 1 n (λ t s. ended) (outcome_ran (machine_run halting input folder n))
unfolding ended
keeps_run input folder zero = subst (λ r. KeepsRun 1 1 0 (λ t s. ended) (outcome_ran r)) (sym (begins input folder)) record {
  same_end = λ over. absurd over;
  no_fault = λ kind pc e. cc;
  spent = λ going t. always _ (λ s enough. absurd (omega arith));
  nothing_else = always _ (λ s. record { rest = []; is = refl });
  nothing_held_back = λ t. always _ (λ s enough. record { rest = []; is = refl });
  covers = omega arith;
  paid = λ going. refl;
}
keeps_run input folder (suc n) = subst (λ r. KeepsRun 1 1 (suc n) (λ t s. ended) (outcome_ran r)) (sym (halts input folder n)) record {
  same_end = λ over. always _ (λ s. record { trace = refl; verdict = refl });
  no_fault = λ kind pc e. cc;
  spent = λ going t. cc;
  nothing_else = always _ (λ s. record { rest = []; is = refl });
  nothing_held_back = λ t. always _ (λ s enough. record { rest = []; is = refl });
  covers = omega arith;
  paid = λ going. cc;
}

pub halt_keeps : KeepsInstructions 1 1 (program_meant (over_folder (meaning empty_program))) (image_meant halting)
unfolding give ended
halt_keeps = record {
  first_global = 0;
  texts_at = 0;
  fits = refl;
  run = λ any_global any_text input folder n any_round. keeps_run input folder n;
}
