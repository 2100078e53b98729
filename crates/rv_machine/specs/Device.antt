-- The machine as its callers see it.
use Rattle.std.specs.Prelude.{◌≡◌, ℕ, ◌+◌, ◌*◌, ◌<◌, ◌≤◌, List, [], length, Option, Some, None, IfSome}
use Rattle.tu_base.specs.declared.limits.TheConstants.{TEXT_AT}
use Rattle.rv_isa.specs.declared.instr.Instr.{Instr}
use Rattle.rv_isa.specs.declared.service.Service.{Service}
use Rattle.rv_isa.specs.declared.service.Service.TheVariants.{End, Stop, PutConsole, GetConsole, Open, Close, PutStream, GetStream, State}
use Rattle.rv_isa.specs.Memory.{Memory}
use Rattle.rv_isa.specs.Step.{Cpu, Space}
use Rattle.rv_image.specs.Steps.{Rest, Paused, Asking, Faulty}
use Rattle.rv_image.specs.Streams.{bytes_at}
use Rattle.rv_machine.specs.Lists.{memory_of, text_in, space_at, cpu_at}
use Rattle.rv_machine.specs.Seen.{IsDecoded, IsLent}
use Rattle.rv_machine.specs.declared.pause.Pause.{Pause}
use Rattle.rv_machine.specs.declared.pause.Pause.TheVariants.{Paused as Full, Ask, Fault}

-- how many words its text has, the bytes of memory from 65,536 on, the 32 registers, the place of the next instruction, how many instructions
-- were counted, and the service that it waits for
pub record Device : Type 0 where
  pub words : ℕ
  pub bytes : List ℕ
  pub registers : List ℕ
  pub pc : ℕ
  pub count : ℕ
  pub waiting : Option Service

abbrev pub space_of : Device → Space
space_of d = space_at d.words d.bytes

abbrev pub cpu_of : Device → Cpu
cpu_of d = cpu_at d.registers d.bytes d.pc

-- what holds of each machine
pub record IsSound (entries : List (Option Instr)) (words : ℕ) (bytes : List ℕ) (waiting : Option Service) : Type 0 where
  pub decoded : IsDecoded entries (text_in words (memory_of bytes))
  pub text : 4 * words ≤ length bytes
  pub memory : TEXT_AT + length bytes < 4294967296
  pub lent : IfSome waiting (λ what. IsLent (TEXT_AT + length bytes) what)

-- where the machine is at rest
abbrev pub came : Pause → Device → Rest
came Full d = Paused d.count (cpu_of d)
came (Ask what) d = Asking what d.count (cpu_of d)
came (Fault why pc) d = Faulty why d.count (cpu_of d)

abbrev pub waits_for : Pause → Option Service
waits_for Full = None
waits_for (Ask what) = Some what
waits_for (Fault why pc) = None

-- a fault's place is that of the instruction
abbrev pub IsPlace : Pause → ℕ → Type 0
IsPlace Full at = Unit {0}
IsPlace (Ask what) at = Unit {0}
IsPlace (Fault why pc) at = pc ≡ at

-- an instruction that asks for a service is counted
abbrev pub Grew : Pause → ℕ → ℕ → Type 0
Grew Full from to = Unit {0}
Grew (Ask what) from to = from < to
Grew (Fault why pc) from to = Unit {0}

-- the bytes that a service names
abbrev pub named : Memory → Service → List ℕ
named m End = []
named m (Stop kind line) = []
named m (PutConsole at size) = bytes_at m at size
named m GetConsole = []
named m (Open at size mode) = bytes_at m at size
named m (Close stream) = []
named m (PutStream stream at size) = bytes_at m at size
named m (GetStream stream) = []
named m (State stream) = []

abbrev pub lends : Memory → Option Service → List ℕ
lends m None = []
lends m (Some what) = named m what
