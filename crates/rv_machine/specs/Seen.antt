-- What the results of the functions stand for.
use Rattle.std.specs.Prelude.{◌≡◌, ◌+◌, ◌*◌, ◌<◌, ◌≤◌, ℕ, nat_le, if◌then◌else◌, List, [], length, map, Option, Some, slice_get, option_map}
use Rattle.tu_base.specs.declared.limits.TheConstants.{TEXT_AT}
use Rattle.rv_isa.specs.declared.instr.Instr.{Instr}
use Rattle.rv_isa.specs.declared.service.Service.{Service}
use Rattle.rv_isa.specs.declared.service.Service.TheVariants.{End, Stop, PutConsole, GetConsole, Open, Close, PutStream, GetStream, State}
use Rattle.rv_isa.specs.Encoding.{Fits, decoding}
use Rattle.rv_isa.specs.Step.{Cpu, Outcome, Goes, Asks, Faults}
use Rattle.rv_image.specs.Steps.{Rest, Paused, Asking, Faulty}
use Rattle.rv_machine.specs.Lists.{cpu_at}
use Rattle.rv_machine.specs.declared.stepped.Stepped.{Stepped}
use Rattle.rv_machine.specs.declared.stepped.Stepped.TheVariants.{To, Asks as asked_for, Faults as faulted}
use Rattle.rv_machine.specs.declared.run.Halt.{Halt}
use Rattle.rv_machine.specs.declared.run.Cause.{Cause}
use Rattle.rv_machine.specs.declared.run.Cause.TheVariants.{Full, Service as served, Fault}

-- the outcome of the instruction at pc, which left these registers and this memory
abbrev pub seen : Stepped → Cpu → Outcome
seen (To pc) c = Goes (record { registers = c.registers; memory = c.memory; pc = pc })
seen (asked_for what) c = Asks what (record { registers = c.registers; memory = c.memory; pc = c.pc + 4 })
seen (faulted why) c = Faults why c

abbrev pub rested_by : Cause → ℕ → Cpu → Rest
rested_by Full count c = Paused count c
rested_by (served what) count c = Asking what count c
rested_by (Fault why) count c = Faulty why count c

-- where a run came to rest, with these registers and bytes
abbrev pub rested : Halt → List ℕ → List ℕ → Rest
rested h registers bytes = rested_by h.cause h.count (cpu_at registers bytes h.pc)

-- Each entry is what its word of the text decodes to, and the instructions fit. There can be fewer entries than words.
pub record IsDecoded (decoded : List (Option Instr)) (text : List ℕ) : Type 0 where
  pub entries : (k : ℕ) (entry : Option Instr) → slice_get decoded k ≡ Some entry → option_map decoding (slice_get text k) ≡ Some entry
  pub fit : (k : ℕ) (op : Instr) → slice_get decoded k ≡ Some (Some op) → Fits op

-- what is kept of a decoded text beside the bytes that are taken: all of it, with 12 bytes for each word, or nothing
abbrev pub kept : ℕ → List ℕ → List (Option Instr)
kept taken text = if nat_le (taken + 12 * length text) 134496256 then map decoding text else []

-- the bytes lie in memory, or there are none of them
abbrev pub Within : ℕ → ℕ → ℕ → Type 0
Within end at size = (0 < size → TEXT_AT ≤ at) × (0 < size → at + size ≤ end)

-- the bytes of a service lie in memory
abbrev pub IsLent : ℕ → Service → Type 0
IsLent end End = Unit {0}
IsLent end (Stop kind line) = Unit {0}
IsLent end (PutConsole at size) = Within end at size
IsLent end GetConsole = Unit {0}
IsLent end (Open at size mode) = Within end at size
IsLent end (Close stream) = Unit {0}
IsLent end (PutStream stream at size) = Within end at size
IsLent end (GetStream stream) = Unit {0}
IsLent end (State stream) = Unit {0}

-- where a service is asked for, the next place is a number of 32 bits
abbrev pub AsksBelow : Stepped → ℕ → ℕ → Type 0
AsksBelow (To to) pc end = Unit {0}
AsksBelow (asked_for what) pc end = (pc + 4 < 4294967296) × IsLent end what
AsksBelow (faulted why) pc end = Unit {0}

-- an instruction that asks for a service is counted
abbrev pub Grows : Cause → ℕ → ℕ → Type 0
Grows Full from to = Unit {0}
Grows (served what) from to = from < to
Grows (Fault why) from to = Unit {0}

-- where a run rests for a service, its bytes lie in memory
abbrev pub RestsWell : Cause → ℕ → Type 0
RestsWell Full end = Unit {0}
RestsWell (served what) end = IsLent end what
RestsWell (Fault why) end = Unit {0}
