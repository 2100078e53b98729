-- A run of the machine over its host, one instruction after the other.
use Rattle.std.specs.Prelude.{ℕ, zero, suc, ◌≤◌}
use Rattle.rv_isa.specs.declared.service.FaultKind.{FaultKind}
use Rattle.rv_isa.specs.Step.{Cpu, Space, Outcome, Goes, Asks, Faults, step}
use Rattle.rv_image.specs.Streams.{Folder, World, Over, Served, Finishes, Replies, served}
use Rattle.rv_image.specs.Run.{answered}

-- what a run stands on: what can be opened, and the text with the end of memory
pub record Ground : Type 0 where
  pub folder : Folder
  pub space : Space

-- how a run stands: the machine goes on, its host has ended the run, or the next instruction faults
pub data Moment : Type 0 where
  Live : (c : Cpu) → (w : World) → Moment
  Finished : (how : Over) → (w : World) → Moment
  Broken : (why : FaultKind) → (pc : ℕ) → (w : World) → Moment

abbrev pub told : Cpu → Served → Moment
told c (Finishes how w) = Finished how w
told c (Replies reply w) = Live (answered c reply) w

abbrev pub heard : Folder → World → Outcome → Moment
heard folder w (Goes to) = Live to w
heard folder w (Asks what to) = told to (served folder to.memory what w)
heard folder w (Faults why at) = Broken why at.pc w

abbrev pub next_moment : Ground → Moment → Moment
next_moment g (Live c w) = heard g.folder w (step g.space c)
next_moment g (Finished how w) = Finished how w
next_moment g (Broken why pc w) = Broken why pc w

-- so many instructions later
abbrev pub later : Ground → ℕ → Moment → Moment
later g zero m = m
later g (suc n) m = later g n (next_moment g m)

-- in at least least and at most most instructions the run comes to where P holds
pub record Comes (g : Ground) (least most : ℕ) (m : Moment) (P : Moment → Type 0) : Type 0 where
  pub count : ℕ
  pub low : least ≤ count
  pub high : count ≤ most
  pub there : P (later g count m)
