-- What the run of an image leaves.
use Rattle.std.specs.Prelude.{◌≡◌, ℕ, ◌-◌, ◌≤◌, true, false, List, Option, Some, None}
use Rattle.tu_base.specs.declared.event.Event.{Event}
use Rattle.tu_base.specs.Kind.{kind_number}
use Rattle.tu_base.specs.Files.{Files}
use Rattle.rv_image.specs.Picture.{Picture}
use Rattle.rv_image.specs.Streams.{Holding}
use Rattle.rv_image.specs.Run.{MachineVerdict, Ended as machine_ended, Stopped as machine_stopped, Fault as machine_fault, Going as machine_going, Ran, machine_run}
use Rattle.rv_host.specs.Told.{ShowsPart}
use Rattle.rv_host.specs.Host.{IsWhole}
use Rattle.tu_run.specs.Outside.{Outside, Tells, told_of}
use Rattle.tu_run.specs.declared.report.Status.{Status}
use Rattle.tu_run.specs.declared.report.Status.TheVariants.{Ended, Stopped, Refused, Usage, NoFile, BadImage, Spent, ConsoleFault, CabinetFault, NoteFault, OutOfMemory, MachineFault}

-- the verdict of a run that a status shows
abbrev pub verdict_shown : Status → Option MachineVerdict
verdict_shown Ended = Some machine_ended
verdict_shown (Stopped kind line) = Some (machine_stopped (kind_number kind) line)
verdict_shown (Refused refusal) = None
verdict_shown Usage = None
verdict_shown NoFile = None
verdict_shown (BadImage error) = None
verdict_shown Spent = Some machine_going
verdict_shown ConsoleFault = None
verdict_shown CabinetFault = None
verdict_shown NoteFault = None
verdict_shown OutOfMemory = None
verdict_shown (MachineFault kind pc) = Some (machine_fault kind pc)

-- The events added, the input left, the files, the count and the status are those of the run at the budget. Where it was broken off, a first part
-- of the trace of the run at the instructions counted stands, with all of the run of one less: nothing that was due before the last instruction is
-- held back. Memory runs out before the first instruction, or where the program has asked to open a file; only there does the cabinet fail.
pub record Runs (ran : ℕ → Ran) (budget : ℕ) (status : Status) (count : ℕ) (events : List Event) (files : Files) (after : Outside) : Type 0 where
  pub verdict_leaves_all : (verdict : MachineVerdict) → verdict_shown status ≡ Some verdict → IsWhole (ran budget) verdict count events files (told_of after)
  pub fault_leaves_prefix : verdict_shown status ≡ None → ShowsPart events files (ran (count - 1)).world.trace (ran count).world.trace (told_of after)
  pub out_of_memory : status ≡ OutOfMemory → (ran count).world.opened ≡ false → count ≡ 0
  pub cabinet_fault : status ≡ CabinetFault → (ran count).world.opened ≡ true

-- What an image does that is run with a budget, where console and cabinet tell what they hold.
pub record RunsImage (image : Picture) (budget : ℕ) (before after : Outside) (status : Status) (count : ℕ) : Type 0 where
  pub told : (input : List ℕ) (events : List Event) (files : Files) → Tells before input events files →
      Runs (machine_run image input (Holding files)) budget status count events files after
  pub within : count ≤ budget
  pub spent : status ≡ Spent → count ≡ budget
