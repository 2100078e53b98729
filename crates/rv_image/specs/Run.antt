-- The run of an image with the services of its host.
use Rattle.std.specs.Prelude.{ℕ, zero, suc, ◌+◌, ◌-◌, List}
use Rattle.tu_base.specs.Kind.{kind_number}
use Rattle.tu_base.specs.declared.event.Verdict.{Verdict}
use Rattle.tu_base.specs.declared.event.Verdict.TheVariants.{Ended as verdict_ended, Stopped as verdict_stopped, Going as verdict_going}
use Rattle.rv_isa.specs.declared.service.FaultKind.{FaultKind}
use Rattle.rv_isa.specs.Step.{Cpu, with_any, Space, Outcome, Goes, Asks, Faults, step}
use Rattle.rv_image.specs.Picture.{Picture}
use Rattle.rv_image.specs.Start.{start_space, start_cpu}
use Rattle.rv_image.specs.Steps.{Rest, Paused, Asking, Faulty}
use Rattle.rv_image.specs.Streams.{Folder, World, start_world, Over, AtItsEnd, StoppedBy, Served, Finishes, Replies, served}

-- A run has ended, or was stopped by an exception, or faults at a place, or needs more instructions than it was given.
pub data MachineVerdict : Type 0 where
  Ended : MachineVerdict
  Stopped : (kind line : ℕ) → MachineVerdict
  Fault : (kind : FaultKind) → (pc : ℕ) → MachineVerdict
  Going : MachineVerdict

-- a run has ended or was stopped
abbrev pub IsOver : MachineVerdict → Type 0
IsOver Ended = Unit {0}
IsOver (Stopped kind line) = Unit {0}
IsOver (Fault kind pc) = ⊥
IsOver Going = ⊥

-- the verdict of a program as a machine gives it, with the number of the exception
abbrev pub machine_verdict : Verdict → MachineVerdict
machine_verdict verdict_ended = Ended
machine_verdict (verdict_stopped kind line) = Stopped (kind_number kind) line
machine_verdict verdict_going = Going

-- how a run stands, after how many instructions, and what it left
pub record Ran : Type 0 where
  pub verdict : MachineVerdict
  pub count : ℕ
  pub world : World

abbrev pub verdict_of : Over → MachineVerdict
verdict_of AtItsEnd = Ended
verdict_of (StoppedBy kind line) = Stopped kind line

-- the reply comes in x10
abbrev pub answered : Cpu → ℕ → Cpu
answered c reply = record c { registers = with_any c.registers 10 reply }

abbrev pub resumed : (Cpu → World → Ran) → ℕ → Cpu → Served → Ran
resumed next count c (Finishes how w) = record { verdict = verdict_of how; count = count; world = w }
resumed next count c (Replies reply w) = next (answered c reply) w

abbrev pub continued : Folder → (Cpu → World → Ran) → ℕ → World → Outcome → Ran
continued folder next count w (Goes to) = next to w
continued folder next count w (Asks what to) = resumed next (count + 1) to (served folder to.memory what w)
continued folder next count w (Faults why at) = record { verdict = Fault why at.pc; count = count; world = w }

-- at most n instructions, after some were counted; the one behind them is not looked at
unfoldable pub run : Folder → Space → ℕ → ℕ → Cpu → World → Ran
run folder s zero count c w = record { verdict = Going; count = count; world = w }
run folder s (suc n) count c w = continued folder (run folder s n (count + 1)) count w (step s c)

-- the run of an image on an input over what can be opened, for at most n instructions
abbrev pub machine_run : Picture → List ℕ → Folder → ℕ → Ran
machine_run p input folder n = run folder (start_space p) n 0 (start_cpu p) (start_world input)

-- The run goes on from where the machine rests. Of all its instructions there are as many as total.
abbrev pub rests : Folder → Space → ℕ → World → Rest → Ran
rests folder s total w (Paused count c) = record { verdict = Going; count = count; world = w }
rests folder s total w (Asking what count c) = resumed (run folder s (total - count) count) count c (served folder c.memory what w)
rests folder s total w (Faulty why count at) = record { verdict = Fault why at.pc; count = count; world = w }
