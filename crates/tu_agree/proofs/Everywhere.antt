-- Passes whose own laws say more than the two forms ask for.
use Rattle.std.proofs.Common.{◌≡◌, ◌≢◌, ℕ, ◌≤◌, IsTrue, List, ◌++◌, sym, ap, ◌∙◌, subst, append_assoc}
use Rattle.tu_base.specs.Trace.{Trace}
use Rattle.rv_isa.specs.declared.service.FaultKind.{FaultKind}
use Rattle.rv_image.specs.Streams.{Folder}
use Rattle.rv_image.specs.Run.{Fault, Going, IsOver}
use Rattle.tu_base.specs.Prefix.{IsPrefix}
use Rattle.tu_agree.specs.Outcomes.{CodeOutcome, CodeMeaning}
use Rattle.tu_agree.specs.Keep.{SameOutcome, cost_bound, KeepsAnswer, KeepsTurns, KeepsRun}

-- the first form, of a pass that keeps every answer, with however many other rounds
pub kept_everywhere : (slow start : ℕ) (before after : CodeMeaning) → ((first_global texts_at : ℕ) → IsTrue (after.fits first_global texts_at) → IsTrue (before.fits first_global texts_at)) → ((first_global texts_at : ℕ) → IsTrue (after.fits first_global texts_at) → (input : List ℕ) (folder : Folder) (t s : ℕ) → KeepsAnswer slow start t s (before.outcome first_global texts_at input folder t s) (after.outcome first_global texts_at input folder t s)) → KeepsTurns slow start before after
kept_everywhere slow start before after fits answer = record {
  there = λ g a may. record {
    fits = fits g a may;
    answer = λ input folder t. record { least = 0; holds = λ s le. answer g a may input folder t s };
  };
}

-- with more other rounds a meaning only goes on, and what is over stays as it is
pub record GrowsByRounds (before : (t s : ℕ) → CodeOutcome) : Type 0 where
  pub final : (t s u : ℕ) → s ≤ u → (before t s).verdict ≢ Going → SameOutcome (before t s) (before t u)
  pub grows : (t s u : ℕ) → s ≤ u → IsPrefix (before t s).trace (before t u).trace

-- a run of at most n instructions against what was meant with n for both bounds, and with each number of turns and of other rounds
pub record KeepsAtBoth (slow start n : ℕ) (before : (t s : ℕ) → CodeOutcome) (after : CodeOutcome) : Type 0 where
  pub same_end : IsOver after.verdict → SameOutcome (before n n) after
  pub no_fault : (kind : FaultKind) (pc : ℕ) → after.verdict ≢ Fault kind pc
  pub spent : after.verdict ≡ Going → (t s : ℕ) → cost_bound slow start (before t s) ≤ n → (before t s).verdict ≡ Going
  pub nothing_else : IsPrefix after.trace (before n n).trace
  pub nothing_held_back : (t s : ℕ) → cost_bound slow start (before t s) ≤ n → IsPrefix (before t s).trace after.trace
  pub covers : after.begun ≤ after.cost
  pub paid : after.verdict ≡ Going → after.cost ≡ n

not_going : (before after : CodeOutcome) → SameOutcome before after → IsOver after.verdict → before.verdict ≢ Going
not_going before after same over = λ e. absurd (subst IsOver (same.verdict ∙ e) over)

more_rounds : (x y z : CodeOutcome) → SameOutcome x y → SameOutcome x z → SameOutcome y z
more_rounds x y z first second = record { trace = second.trace ∙ sym first.trace; verdict = second.verdict ∙ sym first.verdict }

prefix_more : (xs ys zs : Trace) → IsPrefix xs ys → IsPrefix ys zs → IsPrefix xs zs
prefix_more xs ys zs first second = record { rest = first.rest ++ second.rest; is = second.is ∙ (ap (λ w. w ++ second.rest) first.is ∙ append_assoc xs first.rest second.rest) }

-- the last form's part at one number of instructions
pub kept_at_both : (slow start n : ℕ) (before : (t s : ℕ) → CodeOutcome) (after : CodeOutcome) → GrowsByRounds before → KeepsAtBoth slow start n before after → KeepsRun slow start n before after
kept_at_both slow start n before after by_rounds kept = record {
  same_end = λ over. record { least = n; holds = λ s le. more_rounds (before n n) (before n s) after (by_rounds.final n n s le (not_going (before n n) after (kept.same_end over) over)) (kept.same_end over) };
  no_fault = kept.no_fault;
  spent = λ going t. record { least = 0; holds = λ s le. kept.spent going t s };
  nothing_else = record { least = n; holds = λ s le. prefix_more after.trace (before n n).trace (before n s).trace kept.nothing_else (by_rounds.grows n n s le) };
  nothing_held_back = λ t. record { least = 0; holds = λ s le. kept.nothing_held_back t s };
  covers = kept.covers;
  paid = kept.paid;
}
