-- Where a machine asks for a service.
use Rattle.std.proofs.Common.{◌≡◌, ℕ, zero, suc, ◌+◌, ◌%◌, ◌<◌, ◌≤◌, Bool, true, false, cond, eqb, leb, ◌&&◌, Option, Some, None, refl, arith, ap, sym, ◌∙◌, subst}
use Rattle.std.specs.Prelude.{IfSome}
use Rattle.std.proofs.lemmas.Bool.{leb-true, and_parts}
use Rattle.rv_isa.specs.declared.instr.Instr.{Instr}
use Rattle.rv_isa.specs.declared.instr.Instr.TheVariants.{Lui, Auipc, Jal, Jalr, Branch, Load, Store, Immediate, Shift, Register, Fence, Ecall, Ebreak}
use Rattle.rv_isa.specs.declared.instr.LoadKind.{LoadKind}
use Rattle.rv_isa.specs.declared.instr.StoreKind.{StoreKind}
use Rattle.rv_isa.specs.declared.service.FaultKind.TheVariants.{Address, Misaligned}
use Rattle.rv_isa.specs.declared.service.Service.{Service}
use Rattle.rv_isa.specs.declared.service.Service.TheVariants.{End, Stop, PutConsole, GetConsole, Open, Close, PutStream, GetStream, State}
use Rattle.rv_isa.specs.Encoding.{decoding}
use Rattle.rv_isa.specs.Memory.{load_size, store_size, loaded, stored}
use Rattle.rv_isa.specs.Step.{Registers, Cpu, Space, Outcome, Goes, Asks, Faults, register, text_end, lies, gives, loads_at, stores_at, lends, accepted, asked, asks, execute, fetched, performs, executes, step}
use Rattle.rv_image.specs.Steps.{Rest, Paused, Asking, onward, steps}
use Rattle.rv_host.specs.Served.{HasKind}

-- a service that is asked for has a kind that there is
abbrev AsksWell : Outcome → Type 0
AsksWell (Goes to) = Unit {0}
AsksWell (Asks what to) = HasKind what
AsksWell (Faults why at) = Unit {0}

if_well : (b : Bool) (x y : Outcome) → AsksWell x → AsksWell y → AsksWell (cond b x y)
if_well true x y h g = h
if_well false x y h g = g

if_kind : (b : Bool) (x y : Option Service) → IfSome x HasKind → IfSome y HasKind → IfSome (cond b x y) HasKind
if_kind true x y h g = h
if_kind false x y h g = g

accepted_kind : (b : Bool) (what : Service) → (b ≡ true → HasKind what) → IfSome (accepted b what) HasKind
accepted_kind true what h = h refl
accepted_kind false what h = tt

stop_kind : (kind line : ℕ) → IfSome (accepted (leb 1 kind && leb kind 21) (Stop kind line)) HasKind
stop_kind kind line =
    accepted_kind (leb 1 kind && leb kind 21) (Stop kind line) (λ e.
    let parts = and_parts (leb 1 kind) (leb kind 21) e in
    (leb-true 1 kind parts.0, leb-true kind 21 parts.1))

asked_kind : (s : Space) (r : Registers) → IfSome (asked s r) HasKind
asked_kind s r =
    let state : Option Service = cond (eqb (r 17) 8) (Some (State (r 10))) None in
    let get : Option Service = cond (eqb (r 17) 7) (Some (GetStream (r 10))) state in
    let put_if : Bool = lends s (r 11) (r 12) in
    let put : Option Service = cond (eqb (r 17) 6) (accepted put_if (PutStream (r 10) (r 11) (r 12))) get in
    let close : Option Service = cond (eqb (r 17) 5) (Some (Close (r 10))) put in
    let open_if : Bool = lends s (r 10) (r 11) && leb (r 12) 1 in
    let opened : Option Service = cond (eqb (r 17) 4) (accepted open_if (Open (r 10) (r 11) (r 12))) close in
    let got : Option Service = cond (eqb (r 17) 3) (Some GetConsole) opened in
    let write_if : Bool = lends s (r 10) (r 11) in
    let write : Option Service = cond (eqb (r 17) 2) (accepted write_if (PutConsole (r 10) (r 11))) got in
    let stop_if : Bool = leb 1 (r 10) && leb (r 10) 21 in
    let stop : Option Service = cond (eqb (r 17) 1) (accepted stop_if (Stop (r 10) (r 11))) write in
    if_kind (eqb (r 17) 0) (Some End) stop tt
    (if_kind (eqb (r 17) 1) (accepted stop_if (Stop (r 10) (r 11))) write (stop_kind (r 10) (r 11))
    (if_kind (eqb (r 17) 2) (accepted write_if (PutConsole (r 10) (r 11))) got (accepted_kind write_if (PutConsole (r 10) (r 11)) (λ _. tt))
    (if_kind (eqb (r 17) 3) (Some GetConsole) opened tt
    (if_kind (eqb (r 17) 4) (accepted open_if (Open (r 10) (r 11) (r 12))) close (accepted_kind open_if (Open (r 10) (r 11) (r 12)) (λ _. tt))
    (if_kind (eqb (r 17) 5) (Some (Close (r 10))) put tt
    (if_kind (eqb (r 17) 6) (accepted put_if (PutStream (r 10) (r 11) (r 12))) get (accepted_kind put_if (PutStream (r 10) (r 11) (r 12)) (λ _. tt))
    (if_kind (eqb (r 17) 7) (Some (GetStream (r 10))) state tt
    (if_kind (eqb (r 17) 8) (Some (State (r 10))) None tt tt))))))))

asks_well : (c : Cpu) (what : Option Service) → IfSome what HasKind → AsksWell (asks c what)
asks_well c None h = tt
asks_well c (Some what) h = h

load_well : (s : Space) (c : Cpu) (kind : LoadKind) (r a : ℕ) → AsksWell (loads_at s c kind r a)
load_well s c kind r a =
    let to : Outcome = gives c r (loaded kind c.memory a) in
    if_well (eqb (a % load_size kind) 0) (cond (lies 65536 s.end a (load_size kind)) to (Faults Address c)) (Faults Misaligned c)
    (if_well (lies 65536 s.end a (load_size kind)) to (Faults Address c) tt tt)
    tt

store_well : (s : Space) (c : Cpu) (kind : StoreKind) (a v : ℕ) → AsksWell (stores_at s c kind a v)
store_well s c kind a v =
    let to : Outcome = Goes (record { registers = c.registers; memory = stored kind c.memory a v; pc = c.pc + 4 }) in
    if_well (eqb (a % store_size kind) 0) (cond (lies (text_end s) s.end a (store_size kind)) to (Faults Address c)) (Faults Misaligned c)
    (if_well (lies (text_end s) s.end a (store_size kind)) to (Faults Address c) tt tt)
    tt

execute_well : (s : Space) (op : Instr) (c : Cpu) → AsksWell (execute s op c)
execute_well s (Lui rd upper) c = tt
execute_well s (Auipc rd upper) c = tt
execute_well s (Jal rd offset) c = tt
execute_well s (Jalr rd rs1 offset) c = tt
execute_well s (Branch relation rs1 rs2 offset) c = tt
execute_well s (Load kind rd rs1 offset) c = load_well s c kind rd ((register c rs1 + offset) % 4294967296)
execute_well s (Store kind rs1 rs2 offset) c = store_well s c kind ((register c rs1 + offset) % 4294967296) (register c rs2)
execute_well s (Immediate op rd rs1 value) c = tt
execute_well s (Shift op rd rs1 amount) c = tt
execute_well s (Register op rd rs1 rs2) c = tt
execute_well s (Fence rd rs1 value) c = tt
execute_well s Ecall c = asks_well c (asked s c.registers) (asked_kind s c.registers)
execute_well s Ebreak c = tt

performs_well : (s : Space) (op : Option Instr) (c : Cpu) → AsksWell (performs s op c)
performs_well s None c = tt
performs_well s (Some op) c = execute_well s op c

executes_well : (s : Space) (word : Option ℕ) (c : Cpu) → AsksWell (executes s word c)
executes_well s None c = tt
executes_well s (Some word) c = performs_well s (decoding word) c

step_well : (s : Space) (c : Cpu) → AsksWell (step s c)
unfolding step
step_well s c = executes_well s (fetched s c.pc) c

-- a machine is paused after so many instructions
pub record IsPaused (rest : Rest) (count : ℕ) : Type 0 where
  pub at : Cpu
  pub is : rest ≡ Paused count at

-- The machine asks for a service after some instructions, and so it does where it is allowed others behind them. Where it is allowed fewer, it
-- is paused after those.
pub record HasAsked (s : Space) (k : ℕ) (c : Cpu) (what : Service) (count : ℕ) (to : Cpu) : Type 0 where
  pub later : k < count
  pub kind : HasKind what
  pub again : (m : ℕ) → count ≤ k + m → steps s m k c ≡ Asking what count to
  pub before : (m : ℕ) → k + m < count → IsPaused (steps s m k c) (k + m)

-- the same of the first instruction's outcome
record CameToAsk (s : Space) (k : ℕ) (o : Outcome) (what : Service) (count : ℕ) (to : Cpu) : Type 0 where
  later : k < count
  kind : HasKind what
  again : (m : ℕ) → count ≤ k + suc m → onward (steps s m (k + 1)) k o ≡ Asking what count to
  before : (m : ℕ) → k + suc m < count → IsPaused (onward (steps s m (k + 1)) k o) (k + suc m)

one : (s : Space) (n k : ℕ) (o : Outcome) (what : Service) (count : ℕ) (to : Cpu) → AsksWell o →
    ((c : Cpu) → Asking what count to ≡ steps s n (k + 1) c → HasAsked s (k + 1) c what count to) →
    Asking what count to ≡ onward (steps s n (k + 1)) k o → CameToAsk s k o what count to
one s n k (Goes at) what count to well next is =
    let r : HasAsked s (k + 1) at what count to = next at is in
    record {
      later = let l : k + 1 < count = r.later in omega arith;
      kind = r.kind;
      again = λ m l. r.again m (omega arith);
      before = λ m l.
          let p = r.before m (omega arith) in
          let e : k + 1 + m ≡ k + suc m = omega arith in
          record { at = p.at; is = p.is ∙ ap (λ n. Paused n p.at) e };
    }
one s n k (Asks which at) what count to well next is =
    let same : which ≡ what = cc in
    let counted : count ≡ k + 1 = cc in
    record {
      later = omega arith;
      kind = subst HasKind same well;
      again = λ m l. sym is;
      before = λ m l. absurd (omega (arith, counted, l));
    }
one s n k (Faults why at) what count to well next is = absurd cc

again_at : (s : Space) (k : ℕ) (c : Cpu) (what : Service) (count : ℕ) (to : Cpu) → CameToAsk s k (step s c) what count to →
    (m : ℕ) → count ≤ k + m → steps s m k c ≡ Asking what count to
unfolding steps
again_at s k c what count to came zero h = let l : k < count = came.later in absurd (omega arith)
again_at s k c what count to came (suc m) h = came.again m h

before_at : (s : Space) (k : ℕ) (c : Cpu) (what : Service) (count : ℕ) (to : Cpu) → CameToAsk s k (step s c) what count to → (m : ℕ) → k + m < count → IsPaused (steps s m k c) (k + m)
unfolding steps
before_at s k c what count to came zero l = let e : k ≡ k + 0 = omega arith in record { at = c; is = ap (λ n. Paused n c) e }
before_at s k c what count to came (suc m) l = came.before m l

pub has_asked : (s : Space) (n k : ℕ) (c : Cpu) (what : Service) (count : ℕ) (to : Cpu) → Asking what count to ≡ steps s n k c → HasAsked s k c what count to
unfolding steps
has_asked s zero k c what count to is = absurd cc
has_asked s (suc n) k c what count to is =
    let came : CameToAsk s k (step s c) what count to =
    one s n k (step s c) what count to (step_well s c) (λ d i. has_asked s n (k + 1) d what count to i) is in
    record { later = came.later; kind = came.kind; again = again_at s k c what count to came; before = before_at s k c what count to came }

paused_one : (s : Space) (n k : ℕ) (o : Outcome) (count : ℕ) (at : Cpu) → ((c : Cpu) → Paused count at ≡ steps s n (k + 1) c → count ≡ k + 1 + n) →
    Paused count at ≡ onward (steps s n (k + 1)) k o → count ≡ k + suc n
paused_one s n k (Goes to) count at next is = let all : count ≡ k + 1 + n = next to is in omega arith
paused_one s n k (Asks what to) count at next is = absurd cc
paused_one s n k (Faults why to) count at next is = absurd cc

-- a machine that is paused ran all that was allowed
pub paused_all : (s : Space) (n k : ℕ) (c : Cpu) (count : ℕ) (at : Cpu) → Paused count at ≡ steps s n k c → count ≡ k + n
unfolding steps
paused_all s zero k c count at is = let same : count ≡ k = cc in omega arith
paused_all s (suc n) k c count at is = paused_one s n k (step s c) count at (λ d i. paused_all s n (k + 1) d count at i) is
