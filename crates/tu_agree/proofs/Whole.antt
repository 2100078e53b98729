-- A chain of passes from a program to an image.
use Rattle.std.proofs.Common.{◌≡◌, ℕ, ◌*◌, ◌≤◌, refl, sym, subst, arith}
use Rattle.std.proofs.Math.Nat.{mul-le-mul_right}
use Rattle.tu_base.specs.declared.event.Verdict.{Verdict}
use Rattle.tu_base.specs.declared.event.Verdict.TheVariants.{Ended as verdict_ended, Stopped as verdict_stopped, Going as verdict_going}
use Rattle.rv_image.specs.Picture.{Picture}
use Rattle.rv_image.specs.Streams.{Folder}
use Rattle.rv_image.specs.Run.{Going, Ran, machine_run, machine_verdict}
use Rattle.tu_tree_meaning.specs.Meaning.{Meant}
use Rattle.tu_tree_meaning.specs.Laws.{Meaning}
use Rattle.tu_base.specs.Prefix.{IsPrefix}
use Rattle.tu_agree.specs.Agrees.{Agrees, AgreesWithin, IsEnough}
use Rattle.tu_agree.specs.Outcomes.{CodeMeaning, outcome_of, outcome_ran, program_meant, image_meant}
use Rattle.tu_agree.specs.Keep.{Eventually, SameOutcome, cost_bound, KeepsRun, KeepsInstructions, Bound, Instructions, Keeps}
use Rattle.tu_agree.specs.Laws.{KeptIsAgreed}

-- what does not change with the other rounds holds at once
now : (P : Type 0) → Eventually (λ s. P) → P
now P e = e.holds e.least (omega arith)

is_going : (v : Verdict) → machine_verdict v ≡ Going → v ≡ verdict_going
is_going verdict_ended e = cc
is_going (verdict_stopped kind line) e = cc
is_going verdict_going e = refl

-- what is enough at the largest numbers is enough at smaller ones
enough : (slow start n : ℕ) (before : Meant) → slow ≤ 1000 → start ≤ 10000 → IsEnough n before.units → cost_bound slow start (outcome_of before) ≤ n
enough slow start n before few little le = let grown : slow * before.units ≤ 1000 * before.units = mul-le-mul_right before.units few in omega arith

within : (meant : ℕ → Meant) (run : Ran) (slow start n : ℕ) → slow ≤ 1000 → start ≤ 10000 → KeepsRun slow start n (λ t s. outcome_of (meant t)) (outcome_ran run) → AgreesWithin meant run n
within meant run slow start n few little kept = record {
  same_end = λ over. let same : SameOutcome (outcome_of (meant n)) (outcome_ran run) = now (SameOutcome (outcome_of (meant n)) (outcome_ran run)) (kept.same_end over) in record { trace = sym same.trace; verdict = sym same.verdict };
  no_fault = kept.no_fault;
  spent = λ going t le. is_going (meant t).verdict (now (cost_bound slow start (outcome_of (meant t)) ≤ n → machine_verdict (meant t).verdict ≡ Going) (kept.spent going t) (enough slow start n (meant t) few little le));
  output = (now (IsPrefix run.world.trace (meant n).trace) kept.nothing_else, λ t le. now (cost_bound slow start (outcome_of (meant t)) ≤ n → IsPrefix (meant t).trace run.world.trace) (kept.nothing_held_back t) (enough slow start n (meant t) few little le));
}

pub kept_is_agreed : KeptIsAgreed
kept_is_agreed meaning image slow start few little kept input folder n = within (meaning input folder) (machine_run image input folder n) slow start n few little (kept.run 0 0 input folder n 0)

-- the same of a chain whose bound and meanings are only equal to these
pub chain_agrees : (bound : Bound) (slow start : ℕ) (before after : CodeMeaning) (meaning : Meaning Folder) (image : Picture) → bound ≡ Instructions → before ≡ program_meant meaning → after ≡ image_meant image → slow ≤ 1000 → start ≤ 10000 → Keeps bound slow start before after → Agrees meaning image
chain_agrees bound slow start before after meaning image is from to few little kept =
    let by_instructions : KeepsInstructions slow start before after = subst (λ b. Keeps b slow start before after) is kept in
    let from_program : KeepsInstructions slow start (program_meant meaning) after = subst (λ m. KeepsInstructions slow start m after) from by_instructions in
    kept_is_agreed meaning image slow start few little (subst (λ m. KeepsInstructions slow start (program_meant meaning) m) to from_program)
