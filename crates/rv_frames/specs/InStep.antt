-- A run of instructions that keeps step with the machine, against what linear code means.
use Rattle.std.specs.Prelude.{◌≡◌, ◌≢◌, ◌⊎◌, ℕ, ◌+◌, ◌≤◌, List}
use Rattle.rv_isa.specs.declared.service.FaultKind.{FaultKind}
use Rattle.rv_isa.specs.Step.{Cpu}
use Rattle.rv_image.specs.Streams.{Folder, World, Over, AtItsEnd, StoppedBy}
use Rattle.rv_runs.specs.Moments.{Ground, Moment, Live, Finished, Broken, later, Comes}
use Rattle.tu_base.specs.Prefix.{IsPrefix}
use Rattle.rv_runs.specs.Laws.{world_at}
use Rattle.ir_form.specs.Place.{Place, Setting}
use Rattle.ir_form.specs.State.{Verdict, Ended, Stopped, Going, Stuck}
use Rattle.ir_form.specs.Plain.{verdict_of}
use Rattle.ir_form.specs.Units.{Meant, setting_of}
use Rattle.rv_flat.specs.declared.linear.Linear.{Linear}
use Rattle.rv_flat.specs.Units.{linear_meaning}
use Rattle.rv_frames.specs.Frames.{Machine, Running, Unwinding, Taking, Halted, all_kept, ticks, spent, first}
use Rattle.rv_frames.specs.Follows.{HasAllLabels}
use Rattle.rv_frames.specs.Agrees.{IsMeant}

-- instructions go on, and this was done
pub record IsLive (w : World) (x : Moment) : Type 0 where
  pub cpu : Cpu
  pub is : x ≡ Live cpu w

-- instructions are over so; nothing is said of what is stuck
abbrev pub IsOverSo : Verdict → World → Moment → Type 0
IsOverSo Ended w x = x ≡ Finished AtItsEnd w
IsOverSo (Stopped kind line) w x = x ≡ Finished (StoppedBy kind line) w
IsOverSo Going w x = Unit {0}
IsOverSo Stuck w x = Unit {0}

-- Instructions stand as the machine does. Where nothing takes an exception they may be over as soon as it is raised.
abbrev pub StandsAs : Machine → Moment → Type 0
StandsAs (Running routine place state callers) x = IsLive state.world x
StandsAs (Unwinding routine kind line state callers) x = IsLive state.world x ⊎ (x ≡ Finished (StoppedBy kind line) (all_kept state.world))
StandsAs (Taking routine h kind line state callers) x = IsLive state.world x
StandsAs (Halted how w) x = IsOverSo how w x

-- After each number of ticks instructions stand as the machine does. There were no fewer of them than ticks, and at most as many as the ticks
-- cost, and some extra ones at the start.
abbrev pub KeepsStep : Ground → Setting → Linear → (extra : ℕ) → Machine → Moment → Type 0
KeepsStep ground g l extra m x = (count : ℕ) → Comes ground count (spent g l count m + extra) x (StandsAs (ticks g l count m))

-- how n instructions stand, against what is meant within each number of turns and of other rounds
pub record RunsAsMeant (extra n : ℕ) (meant : (t s : ℕ) → Meant) (x : Moment) : Type 0 where
  -- where they are over, what is meant within n turns is over in the same way
  pub same_end : (how : Over) (w : World) → x ≡ Finished how w → (s : ℕ) → n ≤ s → IsMeant (verdict_of how) w (meant n s)
  pub no_fault : (why : FaultKind) (pc : ℕ) (w : World) → x ≢ Broken why pc w
  -- they go on only where what is meant is not over at a cost for which they are enough
  pub spent : (c : Cpu) (w : World) → x ≡ Live c w → (t s : ℕ) → (meant t s).cost + extra ≤ n → (meant t s).verdict ≡ Going
  -- they do nothing else than what is meant, and hold back nothing for which they are enough
  pub nothing_else : (s : ℕ) → n ≤ s → IsPrefix (world_at x).trace (meant n s).trace
  pub nothing_held_back : (t s : ℕ) → (meant t s).cost + extra ≤ n → IsPrefix (meant t s).trace (world_at x).trace

-- what keeps step with the machine does what linear code means
abbrev pub StepsAreMeant : Type 0
StepsAreMeant = (ground : Ground) (l : Linear) (place : Place) (input : List ℕ) (folder : Folder) (extra : ℕ) (x : Moment) → HasAllLabels l →
    ((t s : ℕ) → (linear_meaning l place input folder t s).verdict ≢ Stuck) →
    let g = setting_of place l.globals folder in
    KeepsStep ground g l extra (first g l input) x → (n : ℕ) → RunsAsMeant extra n (λ t s. linear_meaning l place input folder t s) (later ground n x)
