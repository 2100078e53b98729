-- What single instructions lead to.
use Rattle.std.proofs.Common.{◌≡◌, ℕ, ◌+◌, ◌*◌, ◌/◌, ◌%◌, ◌<◌, ◌≤◌, Bool, true, false, cond, ◌&&◌, eqb, leb, Some, refl, arith}
use Rattle.std.proofs.Math.Bool.{or-true}
use Rattle.std.proofs.lemmas.Bool.{eq-eqb, le-leb}
use Rattle.rv_isa.specs.declared.instr.Instr.TheVariants.{Lui, Jal, Jalr, Branch, Load, Store, Immediate, Shift, Register, Ecall}
use Rattle.rv_isa.specs.declared.instr.LoadKind.{LoadKind}
use Rattle.rv_isa.specs.declared.instr.StoreKind.{StoreKind}
use Rattle.rv_isa.specs.declared.instr.ImmediateOp.{ImmediateOp}
use Rattle.rv_isa.specs.declared.instr.ShiftOp.{ShiftOp}
use Rattle.rv_isa.specs.declared.instr.RegisterOp.{RegisterOp}
use Rattle.rv_isa.specs.declared.instr.Relation.{Relation}
use Rattle.rv_isa.specs.declared.service.Service.{Service}
use Rattle.rv_isa.specs.declared.service.Service.TheVariants.{End, Stop, PutConsole, GetConsole, Open, Close, PutStream, GetStream, State}
use Rattle.rv_isa.specs.Arithmetic.{register_value, immediate_value, shift_value, holds}
use Rattle.rv_isa.specs.Memory.{Memory, load_size, store_size, loaded, stored}
use Rattle.rv_isa.specs.Step.{Cpu, Space, Registers, with_any, text_end, lies, lends, asked}
use Rattle.rv_image.specs.Streams.{World, served}
use Rattle.rv_runs.specs.Moments.{Ground, Moment, Live, told, Comes}
use Rattle.rv_runs.specs.Stands.{StandsAt}
use Rattle.rv_runs.proofs.Comes.{does}

abbrev pub cpu : Registers → Memory → ℕ → Cpu
cpu r m pc = record { registers = r; memory = m; pc = pc }

-- size bytes that may be loaded
pub record Loadable (s : Space) (size at : ℕ) : Type 0 where
  pub small : at < 4294967296
  pub aligned : eqb (at % size) 0 ≡ true
  pub within : lies 65536 s.end at size ≡ true

-- size bytes that may be stored
pub record Storable (s : Space) (size at : ℕ) : Type 0 where
  pub small : at < 4294967296
  pub aligned : eqb (at % size) 0 ≡ true
  pub within : lies (text_end s) s.end at size ≡ true

pub lies_within : (from to a size : ℕ) → from ≤ a → a + size ≤ to → lies from to a size ≡ true
lies_within from to a size l h =
    let x : leb from a ≡ true = le-leb from a l in
    let y : leb (a + size) to ≡ true = le-leb (a + size) to h in
    rw (x, y) refl

pub loadable : (s : Space) (size at : ℕ) → at % size ≡ 0 → 0 < size → 65536 ≤ at → at + size ≤ s.end → s.end < 4294967296 → Loadable s size at
loadable s size at e p l h k = record { small = omega arith; aligned = eq-eqb (at % size) 0 e; within = lies_within 65536 s.end at size l h }

pub storable : (s : Space) (size at : ℕ) → at % size ≡ 0 → 0 < size → text_end s ≤ at → at + size ≤ s.end → s.end < 4294967296 → Storable s size at
storable s size at e p l h k = record { small = omega arith; aligned = eq-eqb (at % size) 0 e; within = lies_within (text_end s) s.end at size l h }

-- bytes in memory may be lent
pub lends_within : (s : Space) (at size : ℕ) → leb size 1048576 ≡ true → lies 65536 s.end at size ≡ true → lends s at size ≡ true
lends_within s at size h l = rw (h, l) (or-true (eqb size 0))

module _ (g : Ground) (a b : ℕ) (r : Registers) (m : Memory) (pc : ℕ) (w : World) (P : Moment → Type 0) where
  -- so many instructions from here
  abbrev After : ℕ → Registers → Memory → ℕ → Type 0
  After k q n at = Comes g (a + k) (b + k) (Live (cpu q n at) w) P

  pub lui : (rd upper : ℕ) → StandsAt g.space pc (Lui rd upper) → eqb rd 0 ≡ false → Comes g a b (Live (cpu (with_any r rd upper) m (pc + 4)) w) P → After 1 r m pc
  lui rd upper h n k = does g a b (cpu r m pc) w (Lui rd upper) P h (rw n k)

  -- an instruction without effect
  pub nothing : (op : ImmediateOp) (rs value : ℕ) → StandsAt g.space pc (Immediate op 0 rs value) → Comes g a b (Live (cpu r m (pc + 4)) w) P → After 1 r m pc
  nothing op rs value h k = does g a b (cpu r m pc) w (Immediate op 0 rs value) P h k

  pub immediate : (op : ImmediateOp) (rd rs value v : ℕ) → StandsAt g.space pc (Immediate op rd rs value) → eqb rd 0 ≡ false → immediate_value op (r rs) value ≡ v →
      Comes g a b (Live (cpu (with_any r rd v) m (pc + 4)) w) P → After 1 r m pc
  immediate op rd rs value v h n e k = does g a b (cpu r m pc) w (Immediate op rd rs value) P h (rw (n, e) k)

  pub shift : (op : ShiftOp) (rd rs amount v : ℕ) → StandsAt g.space pc (Shift op rd rs amount) → eqb rd 0 ≡ false → shift_value op (r rs) amount ≡ v →
      Comes g a b (Live (cpu (with_any r rd v) m (pc + 4)) w) P → After 1 r m pc
  shift op rd rs amount v h n e k = does g a b (cpu r m pc) w (Shift op rd rs amount) P h (rw (n, e) k)

  pub combine : (op : RegisterOp) (rd rs rt v : ℕ) → StandsAt g.space pc (Register op rd rs rt) → eqb rd 0 ≡ false → register_value op (r rs) (r rt) ≡ v →
      Comes g a b (Live (cpu (with_any r rd v) m (pc + 4)) w) P → After 1 r m pc
  combine op rd rs rt v h n e k = does g a b (cpu r m pc) w (Register op rd rs rt) P h (rw (n, e) k)

  pub load : (kind : LoadKind) (rd rs offset at : ℕ) → StandsAt g.space pc (Load kind rd rs offset) → eqb rd 0 ≡ false → (r rs + offset) % 4294967296 ≡ at → Loadable g.space (load_size kind) at →
      Comes g a b (Live (cpu (with_any r rd (loaded kind m at)) m (pc + 4)) w) P → After 1 r m pc
  load kind rd rs offset at h n e l k = does g a b (cpu r m pc) w (Load kind rd rs offset) P h (rw (e, l.aligned, l.within, n) k)

  pub store : (kind : StoreKind) (rs rt offset at : ℕ) → StandsAt g.space pc (Store kind rs rt offset) → (r rs + offset) % 4294967296 ≡ at → Storable g.space (store_size kind) at →
      Comes g a b (Live (cpu r (stored kind m at (r rt)) (pc + 4)) w) P → After 1 r m pc
  store kind rs rt offset at h e l k = does g a b (cpu r m pc) w (Store kind rs rt offset) P h (rw (e, l.aligned, l.within) k)

  pub branch : (relation : Relation) (rs rt offset : ℕ) (taken : Bool) → StandsAt g.space pc (Branch relation rs rt offset) → holds relation (r rs) (r rt) ≡ taken →
      Comes g a b (Live (cpu r m (cond taken ((pc + offset) % 4294967296) (pc + 4))) w) P → After 1 r m pc
  branch relation rs rt offset taken h e k = does g a b (cpu r m pc) w (Branch relation rs rt offset) P h (rw e k)

  pub jump : (rs offset to : ℕ) → StandsAt g.space pc (Jalr 0 rs offset) → (r rs + offset) % 4294967296 / 2 * 2 ≡ to → Comes g a b (Live (cpu r m to) w) P → After 1 r m pc
  jump rs offset to h e k = does g a b (cpu r m pc) w (Jalr 0 rs offset) P h (rw e k)

  pub link : (rd rs offset to : ℕ) → StandsAt g.space pc (Jalr rd rs offset) → eqb rd 0 ≡ false → (r rs + offset) % 4294967296 / 2 * 2 ≡ to →
      Comes g a b (Live (cpu (with_any r rd (pc + 4)) m to) w) P → After 1 r m pc
  link rd rs offset to h n e k = does g a b (cpu r m pc) w (Jalr rd rs offset) P h (rw (n, e) k)

  pub jump_near : (offset to : ℕ) → StandsAt g.space pc (Jal 0 offset) → (pc + offset) % 4294967296 ≡ to → Comes g a b (Live (cpu r m to) w) P → After 1 r m pc
  jump_near offset to h e k = does g a b (cpu r m pc) w (Jal 0 offset) P h (rw e k)

  -- what the registers ask for is served
  pub ask : (what : Service) → StandsAt g.space pc Ecall → asked g.space r ≡ Some what → Comes g a b (told (cpu r m (pc + 4)) (served g.folder m what w)) P → After 1 r m pc
  ask what h e k = does g a b (cpu r m pc) w Ecall P h (rw e k)

-- what the registers ask for
pub asked_end : (s : Space) (r : Registers) → r 17 ≡ 0 → asked s r ≡ Some End
asked_end s r a = rw a refl

pub asked_stop : (s : Space) (r : Registers) (kind line : ℕ) → r 17 ≡ 1 → r 10 ≡ kind → r 11 ≡ line → (leb 1 kind && leb kind 21) ≡ true → asked s r ≡ Some (Stop kind line)
asked_stop s r kind line a b c d = rw (a, b, c, d) refl

pub asked_put : (s : Space) (r : Registers) (at size : ℕ) → r 17 ≡ 2 → r 10 ≡ at → r 11 ≡ size → lends s at size ≡ true → asked s r ≡ Some (PutConsole at size)
asked_put s r at size a b c d = rw (a, b, c, d) refl

pub asked_get : (s : Space) (r : Registers) → r 17 ≡ 3 → asked s r ≡ Some GetConsole
asked_get s r a = rw a refl

pub asked_open : (s : Space) (r : Registers) (at size mode : ℕ) → r 17 ≡ 4 → r 10 ≡ at → r 11 ≡ size → r 12 ≡ mode → lends s at size ≡ true → leb mode 1 ≡ true → asked s r ≡ Some (Open at size mode)
asked_open s r at size mode a b c d e f = rw (a, b, c, d, e, f) refl

pub asked_close : (s : Space) (r : Registers) (stream : ℕ) → r 17 ≡ 5 → r 10 ≡ stream → asked s r ≡ Some (Close stream)
asked_close s r stream a b = rw (a, b) refl

pub asked_put_stream : (s : Space) (r : Registers) (stream at size : ℕ) → r 17 ≡ 6 → r 10 ≡ stream → r 11 ≡ at → r 12 ≡ size → lends s at size ≡ true → asked s r ≡ Some (PutStream stream at size)
asked_put_stream s r stream at size a b c d e = rw (a, b, c, d, e) refl

pub asked_get_stream : (s : Space) (r : Registers) (stream : ℕ) → r 17 ≡ 7 → r 10 ≡ stream → asked s r ≡ Some (GetStream stream)
asked_get_stream s r stream a b = rw (a, b) refl

pub asked_state : (s : Space) (r : Registers) (stream : ℕ) → r 17 ≡ 8 → r 10 ≡ stream → asked s r ≡ Some (State stream)
asked_state s r stream a b = rw (a, b) refl
