-- Only a store changes memory, and it stands past the text.
use Rattle.std.proofs.Common.{◌≡◌, ℕ, ◌+◌, ◌*◌, ◌%◌, ◌≤◌, Bool, true, false, cond, eqb, leb, Option, Some, None, refl, arith, ◌∙◌, inl}
use Rattle.std.proofs.lemmas.Bool.{leb-true, and_parts}
use Rattle.rv_isa.specs.declared.instr.Instr.{Instr}
use Rattle.rv_isa.specs.declared.instr.Instr.TheVariants.{Lui, Auipc, Jal, Jalr, Branch, Load, Store, Immediate, Shift, Register, Fence, Ecall, Ebreak}
use Rattle.rv_isa.specs.declared.instr.LoadKind.{LoadKind}
use Rattle.rv_isa.specs.declared.instr.StoreKind.{StoreKind}
use Rattle.rv_isa.specs.declared.service.FaultKind.TheVariants.{Address, Misaligned}
use Rattle.rv_isa.specs.declared.service.Service.{Service}
use Rattle.rv_isa.specs.Encoding.{decoding}
use Rattle.rv_isa.specs.Memory.{Memory, load_size, store_size, loaded, stored}
use Rattle.rv_isa.specs.Step.{Cpu, Space, Outcome, Goes, Faults, register, text_end, lies, gives, loads_at, stores_at, asked, asks, execute, fetched, performs, executes, step}
use Rattle.rv_isa.specs.Fixed.{HoldsText, left_memory}
use Rattle.rv_isa.proofs.Words.{word_apart}

-- the text stands after this outcome
abbrev Keeps : Space → Outcome → Type 0
Keeps s o = HoldsText s.text (left_memory o)

if_keeps : (s : Space) (b : Bool) (x y : Outcome) → (b ≡ true → Keeps s x) → Keeps s y → Keeps s (cond b x y)
if_keeps s true x y h g = h refl
if_keeps s false x y h g = g

stored_keeps : (s : Space) (kind : StoreKind) (m : Memory) (a v : ℕ) → text_end s ≤ a → HoldsText s.text m → HoldsText s.text (stored kind m a v)
stored_keeps s kind m a v past holds = λ k l. word_apart kind m a v (65536 + 4 * k) (inl (omega arith)) ∙ holds k l

store_keeps : (s : Space) (c : Cpu) (kind : StoreKind) (a v : ℕ) → HoldsText s.text c.memory → Keeps s (stores_at s c kind a v)
store_keeps s c kind a v holds =
    let to : Outcome = Goes (record { registers = c.registers; memory = stored kind c.memory a v; pc = c.pc + 4 }) in
    if_keeps s (eqb (a % store_size kind) 0) (cond (lies (text_end s) s.end a (store_size kind)) to (Faults Address c)) (Faults Misaligned c)
    (λ _. if_keeps s (lies (text_end s) s.end a (store_size kind)) to (Faults Address c)
    (λ e. stored_keeps s kind c.memory a v (leb-true (text_end s) a (and_parts (leb (text_end s) a) (leb (a + store_size kind) s.end) e).0) holds)
    holds)
    holds

load_keeps : (s : Space) (c : Cpu) (kind : LoadKind) (r a : ℕ) → HoldsText s.text c.memory → Keeps s (loads_at s c kind r a)
load_keeps s c kind r a holds =
    let to : Outcome = gives c r (loaded kind c.memory a) in
    if_keeps s (eqb (a % load_size kind) 0) (cond (lies 65536 s.end a (load_size kind)) to (Faults Address c)) (Faults Misaligned c)
    (λ _. if_keeps s (lies 65536 s.end a (load_size kind)) to (Faults Address c) (λ _. holds) holds)
    holds

asks_keeps : (s : Space) (c : Cpu) (what : Option Service) → HoldsText s.text c.memory → Keeps s (asks c what)
asks_keeps s c None holds = holds
asks_keeps s c (Some what) holds = holds

execute_keeps : (s : Space) (op : Instr) (c : Cpu) → HoldsText s.text c.memory → Keeps s (execute s op c)
execute_keeps s (Lui rd upper) c holds = holds
execute_keeps s (Auipc rd upper) c holds = holds
execute_keeps s (Jal rd offset) c holds = holds
execute_keeps s (Jalr rd rs1 offset) c holds = holds
execute_keeps s (Branch relation rs1 rs2 offset) c holds = holds
execute_keeps s (Load kind rd rs1 offset) c holds = load_keeps s c kind rd ((register c rs1 + offset) % 4294967296) holds
execute_keeps s (Store kind rs1 rs2 offset) c holds = store_keeps s c kind ((register c rs1 + offset) % 4294967296) (register c rs2) holds
execute_keeps s (Immediate op rd rs1 value) c holds = holds
execute_keeps s (Shift op rd rs1 amount) c holds = holds
execute_keeps s (Register op rd rs1 rs2) c holds = holds
execute_keeps s (Fence rd rs1 value) c holds = holds
execute_keeps s Ecall c holds = asks_keeps s c (asked s c.registers) holds
execute_keeps s Ebreak c holds = holds

performs_keeps : (s : Space) (op : Option Instr) (c : Cpu) → HoldsText s.text c.memory → Keeps s (performs s op c)
performs_keeps s None c holds = holds
performs_keeps s (Some op) c holds = execute_keeps s op c holds

executes_keeps : (s : Space) (word : Option ℕ) (c : Cpu) → HoldsText s.text c.memory → Keeps s (executes s word c)
executes_keeps s None c holds = holds
executes_keeps s (Some word) c holds = performs_keeps s (decoding word) c holds

pub step_keeps : (s : Space) (c : Cpu) → HoldsText s.text c.memory → HoldsText s.text (left_memory (step s c))
unfolding step
step_keeps s c holds = executes_keeps s (fetched s c.pc) c holds
