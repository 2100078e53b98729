-- What the run of so many instructions is, by how it stands then.
use Rattle.std.specs.Prelude.{◌≡◌, ℕ, ◌+◌, ◌<◌, ◌≤◌}
use Rattle.tu_base.specs.Prefix.{IsPrefix}
use Rattle.rv_isa.specs.Step.{Cpu}
use Rattle.rv_image.specs.Streams.{World, Over}
use Rattle.rv_image.specs.Run.{MachineVerdict, Fault, Going, Ran, run, verdict_of}
use Rattle.rv_runs.specs.Moments.{Ground, Moment, Live, Finished, Broken, later}

abbrev pub world_at : Moment → World
world_at (Live c w) = w
world_at (Finished how w) = w
world_at (Broken why pc w) = w

abbrev pub verdict_at : Moment → MachineVerdict
verdict_at (Live c w) = Going
verdict_at (Finished how w) = verdict_of how
verdict_at (Broken why pc w) = Fault why pc

abbrev pub run_on : Ground → ℕ → ℕ → Cpu → World → Ran
run_on g n count c w = run g.folder g.space n count c w

-- the run of n instructions is how it stands after them
pub record Shows (r : Ran) (m : Moment) : Type 0 where
  pub verdict : r.verdict ≡ verdict_at m
  pub world : r.world ≡ world_at m

abbrev pub RunShows : Type 0
RunShows = (g : Ground) (n count : ℕ) (c : Cpu) (w : World) → Shows (run_on g n count c w) (later g n (Live c w))

-- a run goes on from where it comes to
abbrev pub RunGoesOn : Type 0
RunGoesOn = (g : Ground) (k n count : ℕ) (c d : Cpu) (w x : World) → later g k (Live c w) ≡ Live d x → run_on g (k + n) count c w ≡ run_on g n (count + k) d x

-- a run of not more than these goes on too, and has done a first part of what is done there
pub record IsUnderway (r : Ran) (count : ℕ) (x : World) : Type 0 where
  pub going : r.verdict ≡ Going
  pub counted : r.count ≡ count
  pub so_far : IsPrefix r.world.trace x.trace

abbrev pub RunIsUnderway : Type 0
RunIsUnderway = (g : Ground) (k n count : ℕ) (c d : Cpu) (w x : World) → later g k (Live c w) ≡ Live d x → n ≤ k → IsUnderway (run_on g n count c w) (count + n) x

-- a run whose host ends it after one instruction more is over from then on
abbrev pub RunIsOver : Type 0
RunIsOver = (g : Ground) (k n count : ℕ) (c d : Cpu) (w x v : World) (how : Over) →
    later g k (Live c w) ≡ Live d x → later g (k + 1) (Live c w) ≡ Finished how v → k < n → run_on g n count c w ≡ record { verdict = verdict_of how; count = count + k + 1; world = v }

-- what is done stays done
abbrev pub TraceGrows : Type 0
TraceGrows = (g : Ground) (k n count : ℕ) (c : Cpu) (w : World) → k ≤ n → IsPrefix (run_on g k count c w).world.trace (run_on g n count c w).world.trace
