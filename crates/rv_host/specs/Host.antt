-- What a run leaves on the machine, at the console and in the cabinet.
use Rattle.std.specs.Prelude.{◌≡◌, ◌≢◌, ℕ, ◌-◌, true, List, Option, Some, None}
use Rattle.tu_base.specs.declared.event.Event.{Event}
use Rattle.tu_base.specs.Files.{Files}
use Rattle.tu_base.specs.Kind.{kind_number}
use Rattle.rv_image.specs.Run.{MachineVerdict, Ended, Stopped, Fault, Going, Ran, run}
use Rattle.rv_image.specs.Streams.{Holding, start_world}
use Rattle.rv_machine.specs.Device.{Device, space_of, cpu_of}
use Rattle.rv_host.specs.Told.{Told, ShowsTrace, ShowsPart}
use Rattle.rv_host.specs.declared.host.HostEnd.{HostEnd}
use Rattle.rv_host.specs.declared.host.HostEnd.TheVariants.{Ended as ended, Stopped as stopped, Spent as spent, Fault as fault, ConsoleFault as console_fault, CabinetFault as cabinet_fault, Memory as memory}

-- the run of a machine on an input and files, for at most so many instructions
abbrev pub run_on : Device → List ℕ → Files → ℕ → Ran
run_on d input files n = run (Holding files) (space_of d) n 0 (cpu_of d) (start_world input)

-- how the run stands, where the host was not cut off
abbrev pub verdict_told : HostEnd → Option MachineVerdict
verdict_told ended = Some Ended
verdict_told (stopped kind line) = Some (Stopped (kind_number kind) line)
verdict_told spent = Some Going
verdict_told (fault kind pc) = Some (Fault kind pc)
verdict_told console_fault = None
verdict_told cabinet_fault = None
verdict_told memory = None

-- The run has this verdict after so many instructions. Console and cabinet tell what it left of the input, and all of its trace.
pub record IsWhole (ran : Ran) (verdict : MachineVerdict) (count : ℕ) (events : List Event) (files : Files) (told : Told) : Type 0 where
  pub ends : ran.verdict ≡ verdict
  pub after : ran.count ≡ count
  pub left : told.left ≡ Some ran.world.left
  pub shows : ShowsTrace events files ran.world.trace told

-- What is left is that of the run of as many instructions as the budget. Where the host was cut off, a first part of the trace of the run of the
-- instructions counted stands, with all of the run of one less: only the last instruction, the service that was cut off, may have done less than
-- it was to do. The cabinet fails and memory runs out only where the program has asked to open a file.
pub record Leaves (ran : ℕ → Ran) (budget : ℕ) (end : HostEnd) (count : ℕ) (events : List Event) (files : Files) (told : Told) : Type 0 where
  pub whole : (verdict : MachineVerdict) → verdict_told end ≡ Some verdict → IsWhole (ran budget) verdict count events files told
  pub broken : verdict_told end ≡ None → ShowsPart events files (ran (count - 1)).world.trace (ran count).world.trace told
  pub opened : verdict_told end ≡ None → end ≢ console_fault → (ran count).world.opened ≡ true
