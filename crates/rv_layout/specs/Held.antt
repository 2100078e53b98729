-- How the machine of linear code and its callers lie in the memory and the registers of the machine.
use Rattle.std.specs.Prelude.{◌≡◌, ◌≢◌, ◌⊎◌, ℕ, ◌+◌, ◌-◌, ◌*◌, ◌%◌, ◌<◌, ◌≤◌, List, [], ◌∷◌, length, Some, None, true, slice_get}
use Rattle.std.specs.List.{AllByRecursion as Each}
use Rattle.rv_isa.specs.declared.instr.Instr.{Instr}
use Rattle.rv_isa.specs.Memory.{Memory, word_at}
use Rattle.rv_isa.specs.Step.{Cpu, Registers, Space, text_end, with_any}
use Rattle.rv_image.specs.Streams.{World, AtItsEnd, StoppedBy}
use Rattle.ir_form.specs.Place.{Setting, heap_at, stack_at, end_at}
use Rattle.ir_form.specs.Cells.{Fixed, Cells, byte_of, is_open}
use Rattle.ir_form.specs.State.{Env, State, Verdict, Ended, Stopped, Going, Stuck}
use Rattle.ir_form.specs.Units.{Head}
use Rattle.rv_flat.specs.declared.linear.Instruction.{Instruction}
use Rattle.rv_flat.specs.declared.linear.LinearRoutine.{LinearRoutine}
use Rattle.rv_flat.specs.declared.linear.Linear.{Linear}
use Rattle.rv_flat.specs.Units.{head_of}
use Rattle.rv_frames.specs.Frames.{Caller, Machine, Running, Unwinding, Taking, Halted, all_kept, ticks, spent}
use Rattle.rv_flat.specs.Flow.{place_of_label}
use Rattle.rv_runs.specs.Moments.{Ground, Moment, Live, Finished, Comes}
use Rattle.rv_runs.specs.Stands.{Stands}
use Rattle.rv_layout.specs.Pieces.{ask}
use Rattle.rv_layout.specs.Rooms.{slot, head_at}
use Rattle.rv_layout.specs.Calling.{entering, takes_words, receiving}
use Rattle.rv_layout.specs.Words.{Addresses, instruction_words}
use Rattle.rv_layout.specs.Ready.{InSlot, IsReadyCode}

-- these instructions stand at a place, and lead to another one
pub record Code (s : Space) (pc : ℕ) (ops : List Instr) (to : ℕ) : Type 0 where
  pub stand : Stands s pc ops
  pub end : pc + 4 * length ops ≡ to

-- where each instruction of each routine stands, the words by which it jumps to each label, and where the end is asked for
pub record Layout : Type 0 where
  pub addresses : Addresses
  pub place : (routine place : ℕ) → ℕ
  pub jump : (routine place label : ℕ) → List Instr
  pub exit : ℕ

-- what follows a call of the routine k, before the instruction at a place, takes the results
abbrev pub resume : Linear → Layout → (k place : ℕ) → (to : List ℕ) → ℕ
resume l y k place to = y.place k place - 4 * length (receiving (head_at l.routines k) to)

-- a place of the text that can be jumped to
pub record IsEven (place : ℕ) : Type 0 where
  pub even : place % 4 ≡ 0
  pub small : place < 4294967296

-- The machine has come to a place with the same memory and registers, but for register 7.
pub record Arrived (q : Registers) (m : Memory) (w : World) (to : ℕ) (x : Moment) : Type 0 where
  pub seven : ℕ
  pub is : x ≡ Live (record { pc = to; registers = with_any q 7 seven; memory = m }) w

-- from one place to another one, in one or two instructions
abbrev pub Leads : Ground → (pc to : ℕ) → Type 0
Leads g pc to = (q : Registers) (m : Memory) (w : World) → Comes g 1 2 (Live (record { pc = pc; registers = q; memory = m }) w) (Arrived q m w to)

-- What is known of a text, and of a setting, in which linear code is laid out.
pub record Laid (g : Ground) (gs : Setting) (l : Linear) (y : Layout) : Type 0 where
  pub folder : g.folder ≡ gs.folder
  pub end : g.space.end ≡ end_at gs
  pub text : text_end g.space ≡ gs.place.globals_at
  pub texts_low : 65536 ≤ gs.place.texts_at
  pub texts_high : gs.place.texts_at + length l.texts ≤ gs.place.globals_at
  pub aligned : gs.place.globals_at % 4 ≡ 0
  pub globals_high : gs.place.globals_at ≤ 67174400
  pub globals_few : gs.globals ≤ 4259840
  pub globals_at : y.addresses.globals ≡ gs.place.globals_at
  pub texts_at : y.addresses.texts ≡ gs.place.texts_at
  pub stands : (k i : ℕ) (r : LinearRoutine) (x : Instruction) → slice_get l.routines k ≡ Some r → slice_get r.code i ≡ Some x →
      Stands g.space (y.place k i) (instruction_words y.addresses l.routines (head_of r) (y.jump k i) x)
  pub follows : (k i : ℕ) (r : LinearRoutine) (x : Instruction) → slice_get l.routines k ≡ Some r → slice_get r.code i ≡ Some x →
      y.place k (i + 1) ≡ y.place k i + 4 * length (instruction_words y.addresses l.routines (head_of r) (y.jump k i) x)
  pub leads : (k i label pc : ℕ) (r : LinearRoutine) → slice_get l.routines k ≡ Some r → Code g.space pc (y.jump k i label) (y.place k (i + 1)) → Leads g pc (y.place k (place_of_label label r.code))
  pub enters : (k : ℕ) (r : LinearRoutine) → slice_get l.routines k ≡ Some r → Stands g.space (y.addresses.entry k) (entering (head_of r))
  pub begins : (k : ℕ) (r : LinearRoutine) → slice_get l.routines k ≡ Some r → y.place k 0 ≡ y.addresses.entry k + 4 * length (entering (head_of r))
  pub exits : Stands g.space y.exit (ask 0)
  pub shares : Stands g.space y.addresses.shared takes_words
  pub even_exit : IsEven y.exit
  pub even_shared : IsEven y.addresses.shared
  pub even_entry : (k : ℕ) → IsEven (y.addresses.entry k)
  pub even_place : (k i : ℕ) → IsEven (y.place k i)

-- the lowest byte of the stack in use
abbrev pub lowest : Setting → (rooms deeper : ℕ) → ℕ
lowest gs rooms deeper = end_at gs - 4 * (rooms + deeper)

-- an activation that has not ended, by the numbers of its state
pub record Active (gs : Setting) (h : Head) (rooms deeper frame taken : ℕ) : Type 0 where
  pub words : h.words + 32 ≤ h.room
  pub room : h.room ≤ 8388608
  pub few_rooms : rooms ≤ 8388608
  pub few_deeper : deeper ≤ 4096
  pub none_deeper : h.depth ≡ 0 → deeper ≡ 0
  pub deeper_left : h.depth ≢ 0 → deeper + 512 * h.depth ≤ 4608
  pub top : frame + 4 * (rooms + deeper) ≡ end_at gs + 4 * taken

-- the values that are there stand in their slots
pub record Slots (h : Head) (m : Memory) (frame : ℕ) (env : Env) : Type 0 where
  pub slots : (x v : ℕ) → env x ≡ Some v → InSlot h x × (word_at m (frame + slot h x) ≡ v)

-- A caller, of the activation with a head and a frame. It takes no exception. Behind its call, its code takes the results.
pub record Waiting (g : Ground) (gs : Setting) (l : Linear) (y : Layout) (m : Memory) (h : Head) (frame : ℕ) (f : Caller) : Type 0 where
  pub active : Active gs (head_at l.routines f.routine) f.state.rooms f.state.deeper f.state.frame f.state.taken
  pub slots : Slots (head_at l.routines f.routine) m f.state.frame f.state.env
  pub roof : frame + 4 * h.room ≡ lowest gs f.state.rooms f.state.deeper
  pub link : word_at m (frame + 4 * h.room - 4) ≡ resume l y f.routine f.place f.to
  pub back : word_at m (frame + 4 * h.room - 8) ≡ f.state.frame
  pub code : Code g.space (resume l y f.routine f.place f.to) (receiving (head_at l.routines f.routine) f.to) (y.place f.routine f.place)
  pub to : Each (InSlot (head_at l.routines f.routine)) f.to
  pub guard : f.guard ≡ None

-- what lies above an activation with a head and a frame
abbrev pub Below : Ground → Setting → Linear → Layout → Memory → Head → ℕ → List Caller → Type 0
Below g gs l y m h frame [] = (frame + 4 * h.room ≡ end_at gs) × (word_at m (frame + 4 * h.room - 4) ≡ y.exit)
Below g gs l y m h frame (f ∷ callers) = Waiting g gs l y m h frame f × Below g gs l y m (head_at l.routines f.routine) f.state.frame callers

-- no caller takes an exception
abbrev pub NoGuards : List Caller → Type 0
NoGuards [] = Unit {0}
NoGuards (f ∷ callers) = (f.guard ≡ None) × NoGuards callers

-- a byte that is neither in a slot of an activation nor one of the last words of its room
abbrev pub Outside : Head → (frame a : ℕ) → Type 0
Outside h frame a = (a < frame + 4 * h.words) ⊎ (frame + 4 * h.room ≤ a)

abbrev pub Clear : Linear → List Caller → ℕ → Type 0
Clear l [] a = Unit {0}
Clear l (f ∷ callers) a = Outside (head_at l.routines f.routine) f.state.frame a × Clear l callers a

-- a byte where a program may store
pub record IsFree (gs : Setting) (l : Linear) (h : Head) (rooms deeper frame : ℕ) (callers : List Caller) (a : ℕ) : Type 0 where
  pub low : gs.place.globals_at ≤ a
  pub high : a < end_at gs
  pub here : Outside h frame a
  pub above : Clear l callers a
  pub used : (a < stack_at gs) ⊎ (lowest gs rooms deeper ≤ a)

-- a byte of the texts
pub record IsText (gs : Setting) (a : ℕ) : Type 0 where
  pub low : 65536 ≤ a
  pub high : a < gs.place.globals_at

-- the activations and the cells are in memory
pub record Held (g : Ground) (gs : Setting) (l : Linear) (y : Layout) (h : Head) (rooms deeper frame taken : ℕ) (env : Env) (cells : Cells) (callers : List Caller) (m : Memory) : Type 0 where
  pub active : Active gs h rooms deeper frame taken
  pub slots : Slots h m frame env
  pub below : Below g gs l y m h frame callers
  pub bytes : (a b : ℕ) → byte_of (cells a) ≡ Some b → m a ≡ b
  pub free : (a : ℕ) → is_open (cells a) ≡ true → IsFree gs l h rooms deeper frame callers a
  pub fixed : (a b : ℕ) → cells a ≡ Fixed b → IsText gs a

abbrev pub Holds : Ground → Setting → Linear → Layout → Head → State → List Caller → Memory → Type 0
Holds g gs l y h st callers m = Held g gs l y h st.rooms st.deeper st.frame st.taken st.env st.cells callers m

-- the registers that stay as they are while an instruction of linear code runs, by what they have
abbrev pub Fast : Setting → Registers → (low frame : ℕ) → Type 0
Fast gs r low frame = (r 0 ≡ 0) × (r 1 ≡ low) × (r 2 ≡ frame) × (r 3 ≡ end_at gs - 33554432) × (r 4 ≡ heap_at gs)

-- the machine is at a place of a routine
pub record LiveAt (g : Ground) (gs : Setting) (l : Linear) (y : Layout) (k i : ℕ) (h : Head) (st : State) (callers : List Caller) (x : Moment) : Type 0 where
  pub cpu : Cpu
  pub is : x ≡ Live cpu st.world
  pub at : cpu.pc ≡ y.place k i
  pub fast : Fast gs cpu.registers (lowest gs st.rooms st.deeper) st.frame
  pub holds : Holds g gs l y h st callers cpu.memory

-- Of a machine that is stuck nothing is known.
abbrev pub IsOver : Verdict → World → Moment → Type 0
IsOver Ended w x = x ≡ Finished AtItsEnd w
IsOver (Stopped kind line) w x = x ≡ Finished (StoppedBy kind line) w
IsOver Going w x = Unit {0}
IsOver Stuck w x = Unit {0}

-- No guard takes an exception, so the program is stopped as soon as one is raised.
abbrev pub Same : Ground → Setting → Linear → Layout → Machine → Moment → Type 0
Same g gs l y (Running k i st callers) x = LiveAt g gs l y k i (head_at l.routines k) st callers x
Same g gs l y (Unwinding k kind line st callers) x = (x ≡ Finished (StoppedBy kind line) (all_kept st.world)) × NoGuards callers
Same g gs l y (Taking k handler kind line st callers) x = ⊥
Same g gs l y (Halted verdict w) x = IsOver verdict w x

-- Where linear code is laid out and ready, the machine keeps step with it: after so many steps of the code, in as many instructions at least and
-- as many as they cost at most, it stands where the code does.
abbrev pub LaidCodeKeepsStep : Type 0
LaidCodeKeepsStep = (g : Ground) (gs : Setting) (l : Linear) (y : Layout) → Laid g gs l y → gs.globals ≡ l.globals → IsReadyCode l →
    (n : ℕ) (m : Machine) (x : Moment) → Same g gs l y m x → Comes g n (spent gs l n m) x (Same g gs l y (ticks gs l n m))
