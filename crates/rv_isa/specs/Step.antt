-- One instruction.
use Rattle.std.specs.Prelude.{ℕ, ◌+◌, ◌-◌, ◌*◌, ◌/◌, ◌%◌, ◌^◌, Bool, ◌==◌, nat_le, ◌&&◌, ◌||◌, if◌then◌else◌, List, length, slice_get, Option, Some, None}
use Rattle.tu_base.specs.declared.limits.TheConstants.{MOST_LENT_BYTES, TEXT_AT}
use Rattle.rv_isa.specs.declared.instr.Instr.{Instr}
use Rattle.rv_isa.specs.declared.instr.Instr.TheVariants.{Lui, Auipc, Jal, Jalr, Branch, Load, Store, Immediate, Shift, Register, Fence, Ecall, Ebreak}
use Rattle.rv_isa.specs.declared.instr.LoadKind.{LoadKind}
use Rattle.rv_isa.specs.declared.instr.StoreKind.{StoreKind}
use Rattle.rv_isa.specs.Encoding.{decoding}
use Rattle.rv_isa.specs.Arithmetic.{register_value, immediate_value, shift_value, holds}
use Rattle.rv_isa.specs.Memory.{Memory, load_size, store_size, loaded, stored}
use Rattle.rv_isa.specs.declared.service.FaultKind.{FaultKind}
use Rattle.rv_isa.specs.declared.service.FaultKind.TheVariants.{Illegal, Fetch, Address, Misaligned, Break, Service as service_fault}
use Rattle.rv_isa.specs.declared.service.Service.{Service}
use Rattle.rv_isa.specs.declared.service.Service.TheVariants.{End, Stop, PutConsole, GetConsole, Open, Close, PutStream, GetStream, State}

abbrev pub Registers : Type 0
Registers = ℕ → ℕ

-- with v in register r, also where r is 0
unfoldable pub with_any : Registers → ℕ → ℕ → Registers
with_any registers r v = λ q. if q == r then v else registers q

-- the registers, the bytes from 65,536 on and the place of the next instruction
pub record Cpu : Type 0 where
  pub registers : Registers
  pub memory : Memory
  pub pc : ℕ

-- what stays the same in a run: the words of the text, which lies at 65,536 and is read only, and the end of memory
pub record Space : Type 0 where
  pub text : List ℕ
  pub end : ℕ

abbrev pub text_end : Space → ℕ
text_end s = TEXT_AT + 4 * length s.text

-- what an instruction comes to
pub data Outcome : Type 0 where
  Goes : (to : Cpu) → Outcome
  Asks : (what : Service) → (to : Cpu) → Outcome
  Faults : (why : FaultKind) → (at : Cpu) → Outcome

abbrev pub register : Cpu → ℕ → ℕ
register c r = c.registers r

-- register 0 stays 0
abbrev pub with_register : Registers → ℕ → ℕ → Registers
with_register registers r v = if r == 0 then registers else with_any registers r v

-- on to the next instruction, with v in r
abbrev pub gives : Cpu → ℕ → ℕ → Outcome
gives c r v = Goes (record { registers = with_register c.registers r v; memory = c.memory; pc = c.pc + 4 })

-- on at a place
abbrev pub jumps : Cpu → ℕ → Outcome
jumps c to = Goes (record { registers = c.registers; memory = c.memory; pc = to })

abbrev pub calls : Cpu → ℕ → ℕ → Outcome
calls c r to = Goes (record { registers = with_register c.registers r (c.pc + 4); memory = c.memory; pc = to })

-- the size bytes from a on lie between two places
abbrev pub lies : ℕ → ℕ → ℕ → ℕ → Bool
lies from to a size = nat_le from a && nat_le (a + size) to

abbrev pub loads_at : Space → Cpu → LoadKind → ℕ → ℕ → Outcome
loads_at s c kind r a =
    if a % load_size kind == 0 then (if lies TEXT_AT s.end a (load_size kind) then gives c r (loaded kind c.memory a) else Faults Address c)
    else Faults Misaligned c

abbrev pub stores_at : Space → Cpu → StoreKind → ℕ → ℕ → Outcome
stores_at s c kind a v =
    if a % store_size kind == 0 then (
    if lies (text_end s) s.end a (store_size kind) then Goes (record { registers = c.registers; memory = stored kind c.memory a v; pc = c.pc + 4 })
    else Faults Address c)
    else Faults Misaligned c

-- The bytes of a service are at most 1,048,576 and wholly in memory. None of them are so at every address.
abbrev pub lends : Space → ℕ → ℕ → Bool
lends s at size = nat_le size MOST_LENT_BYTES && ((size == 0) || lies TEXT_AT s.end at size)

abbrev pub accepted : Bool → Service → Option Service
accepted b what = if b then Some what else None

-- the service that the registers ask for
abbrev pub asked : Space → Registers → Option Service
asked s r =
    let which = r 17 in let x = r 10 in let y = r 11 in let z = r 12 in
    if which == 0 then Some End
    else if which == 1 then accepted (nat_le 1 x && nat_le x 21) (Stop x y)
    else if which == 2 then accepted (lends s x y) (PutConsole x y)
    else if which == 3 then Some GetConsole
    else if which == 4 then accepted (lends s x y && nat_le z 1) (Open x y z)
    else if which == 5 then Some (Close x)
    else if which == 6 then accepted (lends s y z) (PutStream x y z)
    else if which == 7 then Some (GetStream x)
    else if which == 8 then Some (State x)
    else None

abbrev pub asks : Cpu → Option Service → Outcome
asks c None = Faults service_fault c
asks c (Some what) = Asks what (record { registers = c.registers; memory = c.memory; pc = c.pc + 4 })

abbrev pub execute : Space → Instr → Cpu → Outcome
execute s (Lui rd upper) c = gives c rd upper
execute s (Auipc rd upper) c = gives c rd ((c.pc + upper) % 2 ^ 32)
execute s (Jal rd offset) c = calls c rd ((c.pc + offset) % 2 ^ 32)
execute s (Jalr rd rs1 offset) c = calls c rd ((register c rs1 + offset) % 2 ^ 32 / 2 * 2)
execute s (Branch relation rs1 rs2 offset) c = jumps c (if holds relation (register c rs1) (register c rs2) then (c.pc + offset) % 2 ^ 32 else c.pc + 4)
execute s (Load kind rd rs1 offset) c = loads_at s c kind rd ((register c rs1 + offset) % 2 ^ 32)
execute s (Store kind rs1 rs2 offset) c = stores_at s c kind ((register c rs1 + offset) % 2 ^ 32) (register c rs2)
execute s (Immediate op rd rs1 value) c = gives c rd (immediate_value op (register c rs1) value)
execute s (Shift op rd rs1 amount) c = gives c rd (shift_value op (register c rs1) amount)
execute s (Register op rd rs1 rs2) c = gives c rd (register_value op (register c rs1) (register c rs2))
execute s (Fence rd rs1 value) c = jumps c (c.pc + 4)
execute s Ecall c = asks c (asked s c.registers)
execute s Ebreak c = Faults Break c

-- the word at a place of the text, and none outside it
abbrev pub fetched : Space → ℕ → Option ℕ
fetched s pc = if nat_le TEXT_AT pc && (pc % 4 == 0) then slice_get s.text ((pc - TEXT_AT) / 4) else None

abbrev pub performs : Space → Option Instr → Cpu → Outcome
performs s None c = Faults Illegal c
performs s (Some op) c = execute s op c

abbrev pub executes : Space → Option ℕ → Cpu → Outcome
executes s None c = Faults Fetch c
executes s (Some word) c = performs s (decoding word) c

-- the instruction at pc
unfoldable pub step : Space → Cpu → Outcome
step s c = executes s (fetched s c.pc) c
