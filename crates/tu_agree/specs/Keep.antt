-- What a pass keeps of a meaning, in two forms: what it makes is bounded by turns, or by instructions.
use Rattle.std.specs.Prelude.{◌≡◌, ◌≢◌, ℕ, ◌+◌, ◌*◌, ◌≤◌, ◌⊎◌, IsTrue, List}
use Rattle.rv_isa.specs.declared.service.FaultKind.{FaultKind}
use Rattle.rv_image.specs.Streams.{Folder}
use Rattle.rv_image.specs.Run.{Fault, Going, IsOver}
use Rattle.tu_base.specs.Prefix.{IsPrefix}
use Rattle.tu_agree.specs.Outcomes.{CodeOutcome, CodeMeaning}

-- for all numbers from some number on
pub record Eventually (P : ℕ → Type 0) : Type 0 where
  pub least : ℕ
  pub holds : (s : ℕ) → least ≤ s → P s

-- the same actions and the same verdict, at whatever cost
pub record SameOutcome (before after : CodeOutcome) : Type 0 where
  pub trace : after.trace ≡ before.trace
  pub verdict : after.verdict ≡ before.verdict

-- what a cost before becomes at most
abbrev pub cost_bound : (slow start : ℕ) → CodeOutcome → ℕ
cost_bound slow start before = slow * before.cost + start

-- Within t turns and s other rounds: the same answer, at a cost that is bounded by the cost before, and that is at least one for each turn
-- and each other round that has begun. Code that goes on has begun all the turns or all the other rounds that it may.
pub record KeepsAnswer (slow start t s : ℕ) (before after : CodeOutcome) : Type 0 where
  pub same : SameOutcome before after
  pub cost : after.cost ≤ cost_bound slow start before
  pub covers : after.begun ≤ after.cost
  pub paid : after.verdict ≡ Going → (t ≤ after.cost) ⊎ (s ≤ after.cost)

-- both codes at one pair of addresses, where there is enough of other rounds
pub record KeepsThere (slow start first_global texts_at : ℕ) (before after : CodeMeaning) : Type 0 where
  pub fits : IsTrue (before.fits first_global texts_at)
  pub answer : (input : List ℕ) (folder : Folder) (t : ℕ) → Eventually (λ s. KeepsAnswer slow start t s (before.outcome first_global texts_at input folder t s) (after.outcome first_global texts_at input folder t s))

-- the first form: wherever what the pass makes may lie
pub record KeepsTurns (slow start : ℕ) (before after : CodeMeaning) : Type 0 where
  pub there : (first_global texts_at : ℕ) → IsTrue (after.fits first_global texts_at) → KeepsThere slow start first_global texts_at before after

-- a run of at most n instructions against what was meant before within each number of turns and of other rounds
pub record KeepsRun (slow start n : ℕ) (before : (t s : ℕ) → CodeOutcome) (after : CodeOutcome) : Type 0 where
  -- where the run is over, what was meant within n turns is over in the same way
  pub same_end : IsOver after.verdict → Eventually (λ s. SameOutcome (before n s) after)
  pub no_fault : (kind : FaultKind) (pc : ℕ) → after.verdict ≢ Fault kind pc
  -- the run is spent only where what was meant is not over at a cost for which n instructions are enough
  pub spent : after.verdict ≡ Going → (t : ℕ) → Eventually (λ s. cost_bound slow start (before t s) ≤ n → (before t s).verdict ≡ Going)
  -- the run does nothing else than what was meant, and holds back nothing for which n instructions are enough
  pub nothing_else : Eventually (λ s. IsPrefix after.trace (before n s).trace)
  pub nothing_held_back : (t : ℕ) → Eventually (λ s. cost_bound slow start (before t s) ≤ n → IsPrefix (before t s).trace after.trace)
  -- it costs one for each instruction, and has run all of them where it is spent
  pub covers : after.begun ≤ after.cost
  pub paid : after.verdict ≡ Going → after.cost ≡ n

-- The last form: there is a pair of addresses at which the run keeps what was meant. The run itself looks at no addresses and no other rounds.
pub record KeepsInstructions (slow start : ℕ) (before after : CodeMeaning) : Type 0 where
  pub first_global : ℕ
  pub texts_at : ℕ
  pub fits : IsTrue (before.fits first_global texts_at)
  pub run : (any_global any_text : ℕ) (input : List ℕ) (folder : Folder) (n any_round : ℕ) → KeepsRun slow start n (before.outcome first_global texts_at input folder) (after.outcome any_global any_text input folder n any_round)

-- what bounds a run of what a pass makes
pub data Bound : Type 0 where
  Turns : Bound
  Instructions : Bound

abbrev pub Keeps : Bound → (slow start : ℕ) → (before after : CodeMeaning) → Type 0
Keeps Turns = KeepsTurns
Keeps Instructions = KeepsInstructions
