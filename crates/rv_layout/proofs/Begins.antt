-- How the words of an instruction begin and end, and what is known of the instruction.
use Rattle.std.proofs.Common.{◌≡◌, ℕ, ◌+◌, ◌*◌, ◌≤◌, false, eqb, List, ◌++◌, length, Option, Some, None, refl, arith, ap, sym, ◌∙◌, subst}
use Rattle.std.specs.Prelude.{slice_get}
use Rattle.std.specs.List.{AllByRecursion as Each}
use Rattle.rv_isa.specs.declared.instr.Instr.{Instr}
use Rattle.rv_isa.specs.Memory.{Memory, with_word}
use Rattle.rv_isa.specs.Step.{Registers, with_any}
use Rattle.ir_form.specs.Place.{Setting}
use Rattle.ir_form.specs.Lawful.{IsThere}
use Rattle.ir_form.specs.State.{State, Run, needs, with_value}
use Rattle.ir_form.specs.Units.{Head}
use Rattle.rv_flat.specs.declared.linear.Instruction.{Instruction}
use Rattle.rv_flat.specs.declared.linear.LinearRoutine.{LinearRoutine}
use Rattle.rv_flat.specs.declared.linear.Linear.{Linear}
use Rattle.rv_flat.specs.Lawful.{depths_of}
use Rattle.rv_flat.specs.Parts.{instruction_numbers, instruction_plains, instruction_takers, IsDistinct, IsUnguardedInstruction}
use Rattle.rv_flat.specs.Units.{head_of}
use Rattle.rv_frames.specs.Frames.{Caller, Machine, Running, wants, goes_on_run}
use Rattle.rv_runs.specs.Moments.{Ground, Moment, Live, Comes}
use Rattle.rv_runs.specs.Stands.{Stands}
use Rattle.rv_runs.proofs.Comes.{done}
use Rattle.rv_runs.proofs.Places.{stands_left}
use Rattle.rv_runs.proofs.Steps.{cpu}
use Rattle.rv_layout.specs.Pieces.{is_near}
use Rattle.rv_layout.specs.Rooms.{slot, head_in, head_at, load_value, store_value}
use Rattle.rv_layout.specs.Words.{instruction_words}
use Rattle.rv_layout.specs.Ready.{InSlot, IsSmall}
use Rattle.rv_layout.specs.Held.{Code, Layout, Laid, lowest, Holds, Fast, LiveAt, Same}
use Rattle.rv_layout.proofs.Slots.{behind, load_then, store_then}
use Rattle.rv_layout.proofs.Stores.{held_defined}
use Rattle.rv_layout.proofs.Access.{slot_word}

-- what is known of an instruction of a routine
pub record Sane (l : Linear) (r : LinearRoutine) (x : Instruction) : Type 0 where
  pub numbers : Each (InSlot (head_of r)) (instruction_numbers x)
  pub small : IsSmall x
  pub unguarded : IsUnguardedInstruction x
  pub distinct : Each IsDistinct (instruction_takers x)
  pub there : Each (IsThere l.globals (length l.texts) (depths_of l.routines) r.words r.depth) (instruction_plains x)

-- where a routine runs, at a place of its code
module _ (g : Ground) (gs : Setting) (l : Linear) (y : Layout) (laid : Laid g gs l y) (k i : ℕ) (r : LinearRoutine) (here : slice_get l.routines k ≡ Some r) (callers : List Caller) where
  abbrev h : Head
  h = head_of r

  abbrev to : ℕ
  to = y.place k (i + 1)

  abbrev pub words : Instruction → List Instr
  words x = instruction_words y.addresses l.routines (head_of r) (y.jump k i) x

  -- a value that must be there
  pub needed : {A : Type 0} → (j : ℕ) (o : Option A) (st : State) (c : ℕ) (go : A → Run) (x : Moment) (lo hi : ℕ) → lo ≤ hi → ((v : A) → o ≡ Some v → Comes g lo hi x (Same g gs l y (goes_on_run k j callers (go v)))) →
      Comes g lo hi x (Same g gs l y (goes_on_run k j callers (needs o st c go)))
  needed j None st c go x lo hi le f = record { count = lo; low = omega arith; high = le; there = tt }
  needed j (Some v) st c go x lo hi le f = f v refl

  pub wanted : {A : Type 0} → (o : Option A) (st : State) (go : A → Machine) (x : Moment) (lo hi : ℕ) → lo ≤ hi → ((v : A) → o ≡ Some v → Comes g lo hi x (Same g gs l y (go v))) → Comes g lo hi x (Same g gs l y (wants o st go))
  wanted None st go x lo hi le f = record { count = lo; low = omega arith; high = le; there = tt }
  wanted (Some v) st go x lo hi le f = f v refl

  -- a value comes into a register
  pub value_then : (a b : ℕ) (st : State) (q : Registers) (m : Memory) (pc last rd x v : ℕ) (rest : List Instr) (P : Moment → Type 0) → Holds g gs l y h st callers m → q 2 ≡ st.frame → st.env x ≡ Some v → eqb rd 0 ≡ false →
      Code g.space pc (load_value h rd x ++ rest) last → ((z n : ℕ) → Code g.space n rest last → Comes g a b (Live (cpu (with_any (with_any q 7 z) rd v) m n) st.world) P) → Comes g (a + 1) (b + 3) (Live (cpu q m pc) st.world) P
  value_then a b st q m pc last rd x v rest P is e d n code f =
      let s = is.slots.slots x v d in
      let word = slot_word g gs l y laid h st.rooms st.deeper st.frame st.taken st.env st.cells callers m is x s.0 in
      load_then g a b q m pc st.world P (is_near (slot h x)) rd 2 (slot h x) (st.frame + slot h x) (stands_left g.space pc (load_value h rd x) rest code.stand) n refl (ap (λ p. p + slot h x) e) word.0
      (λ z. rw s.1 (f z (pc + 4 * length (load_value h rd x)) (behind g.space pc last (load_value h rd x) rest code)))

  -- where an instruction begins
  pub begins : (x : Instruction) (st : State) (lo hi : ℕ) (c : Moment) (P : Moment → Type 0) → slice_get r.code i ≡ Some x → LiveAt g gs l y k i (head_at l.routines k) st callers c →
      ((q : Registers) (m : Memory) (pc : ℕ) → Holds g gs l y h st callers m → Fast gs q (lowest gs st.rooms st.deeper) st.frame → Code g.space pc (words x) to → Comes g lo hi (Live (cpu q m pc) st.world) P) → Comes g lo hi c P
  begins x st lo hi c P at is f =
      let mine : Holds g gs l y h st callers is.cpu.memory = subst (λ n. Holds g gs l y n st callers is.cpu.memory) (ap head_in here) is.holds in
      subst (λ p. Comes g lo hi p P) (sym is.is)
      (f is.cpu.registers is.cpu.memory is.cpu.pc mine is.fast (record {
        stand = subst (λ n. Stands g.space n (words x)) (sym is.at) (laid.stands k i r x here at);
        end = ap (λ n. n + 4 * length (words x)) is.at ∙ sym (laid.follows k i r x here at);
      }))

  -- it goes on at a place of the routine
  pub goes_on : (st : State) (q : Registers) (m : Memory) (pc j : ℕ) → Holds g gs l y h st callers m → Fast gs q (lowest gs st.rooms st.deeper) st.frame → pc ≡ y.place k j →
      Comes g 0 0 (Live (cpu q m pc) st.world) (Same g gs l y (Running k j st callers))
  goes_on st q m pc j is e at =
      done g _ (Same g gs l y (Running k j st callers)) (record {
        cpu = cpu q m pc;
        is = refl;
        at = at;
        fast = e;
        holds = subst (λ n. Holds g gs l y n st callers m) (sym (ap head_in here)) is;
      })

  -- a register goes into a slot, and the instruction is over
  pub defined : (st : State) (q : Registers) (m : Memory) (pc from x v : ℕ) → Holds g gs l y h st callers m → Fast gs q (lowest gs st.rooms st.deeper) st.frame → q from ≡ v → eqb from 7 ≡ false → InSlot h x → Code g.space pc (store_value h from x) to →
      Comes g 1 3 (Live (cpu q m pc) st.world) (Same g gs l y (Running k (i + 1) (record st { env = with_value st.env x v }) callers))
  unfolding with_any
  defined st q m pc from x v is e w n lx code =
      let word = slot_word g gs l y laid h st.rooms st.deeper st.frame st.taken st.env st.cells callers m is x lx in
      store_then g 0 0 q m pc st.world _ (is_near (slot h x)) from 2 (slot h x) (st.frame + slot h x) v code.stand n refl (ap (λ p. p + slot h x) e.2) w word.1
      (λ z. goes_on (record st { env = with_value st.env x v }) (with_any q 7 z) (with_word m (st.frame + slot h x) v) (pc + 4 * length (store_value h from x)) (i + 1)
      (held_defined g gs l y h st.rooms st.deeper st.frame st.taken st.env st.cells callers m x v lx is) e code.end)
