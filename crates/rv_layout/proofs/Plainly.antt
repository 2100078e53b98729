-- The operations that only define a value or store one run in lock step.
use Rattle.std.proofs.Common.{◌≡◌, ℕ, ◌+◌, ◌*◌, ◌<◌, List, ◌++◌, length, Some, refl, arith, ap, ◌∙◌}
use Rattle.std.specs.Prelude.{slice_get}
use Rattle.rv_isa.specs.declared.instr.RegisterOp.{RegisterOp}
use Rattle.rv_isa.specs.declared.instr.Instr.TheVariants.{Load as LoadInto, Register}
use Rattle.rv_isa.specs.Arithmetic.{register_value}
use Rattle.rv_isa.specs.Memory.{Memory, stored as stored_to, loaded as loaded_from}
use Rattle.rv_isa.specs.Step.{Registers, with_any}
use Rattle.ir_form.specs.declared.plain.Width.{Width}
use Rattle.ir_form.specs.declared.plain.Plain.{Plain as PlainOp}
use Rattle.ir_form.specs.declared.plain.Plain.TheVariants.{Constant, Global, Heap, Frame, Text, Compute, Load, Store}
use Rattle.ir_form.specs.Plain.{does}
use Rattle.ir_form.specs.Place.{Setting, heap_at}
use Rattle.ir_form.specs.Cells.{loaded, stored}
use Rattle.ir_form.specs.Cost.{plain_price}
use Rattle.ir_form.specs.State.{State, with_value}
use Rattle.ir_form.specs.Units.{Head}
use Rattle.rv_flat.specs.declared.linear.Instruction.TheVariants.{Plain}
use Rattle.rv_flat.specs.declared.linear.LinearRoutine.{LinearRoutine}
use Rattle.rv_flat.specs.declared.linear.Linear.{Linear}
use Rattle.rv_flat.specs.Units.{head_of}
use Rattle.rv_frames.specs.Frames.{Caller, Running, goes_on_run, no_calls}
use Rattle.rv_runs.specs.Moments.{Ground, Moment, Live, Comes}
use Rattle.rv_runs.proofs.Comes.{widen}
use Rattle.rv_runs.proofs.Places.{stands_left}
use Rattle.rv_runs.proofs.Steps.{cpu, combine, load, store}
use Rattle.rv_layout.specs.Pieces.{is_near, constant, long, address_word}
use Rattle.rv_layout.specs.Rooms.{cut, head_at, store_value}
use Rattle.rv_layout.specs.Words.{load_kind, store_kind}
use Rattle.rv_layout.specs.Ready.{InSlot}
use Rattle.rv_layout.specs.Held.{Code, Layout, Laid, lowest, Holds, Fast, LiveAt, Same}
use Rattle.rv_layout.proofs.Slots.{behind, after, long_then, constant_then, address_then}
use Rattle.rv_layout.proofs.Stores.{below_top}
use Rattle.rv_layout.proofs.Access.{end_small, loads, stores}
use Rattle.rv_layout.proofs.Begins.{Sane, needed, value_then, begins, goes_on, defined}

module _ (g : Ground) (gs : Setting) (l : Linear) (y : Layout) (laid : Laid g gs l y) (globals : gs.globals ≡ l.globals) (k i : ℕ) (r : LinearRoutine) (here : slice_get l.routines k ≡ Some r) (callers : List Caller) where
  abbrev h : Head
  h = head_of r

  abbrev to : ℕ
  to = y.place k (i + 1)

  -- what an operation is done by
  abbrev Locked : PlainOp → Type 0
  Locked p = (st : State) (c : Moment) → slice_get r.code i ≡ Some (Plain p) → Sane l r (Plain p) → LiveAt g gs l y k i (head_at l.routines k) st callers c →
      Comes g 1 (plain_price p) c (Same g gs l y (goes_on_run k (i + 1) callers (does gs no_calls p st 0)))

  pub constant_lock : (x w : ℕ) → Locked (Constant x w)
  unfolding with_any
  constant_lock x w st c at ok is =
      begins g gs l y laid k i r here callers (Plain (Constant x w)) st 1 5 c _ at is (λ q m pc me e code.
      widen g (1 + 1) (3 + 2) 1 5 _ _
      (constant_then g 1 3 q m pc st.world _ (is_near w) 5 w (stands_left g.space pc (constant 5 w) _ code.stand) refl e.0 ok.small
      (defined g gs l y laid k i r here callers st (with_any q 5 w) m _ 5 x w me e refl refl ok.numbers.0 (behind g.space pc to (constant 5 w) _ code)))
      (omega arith) (omega arith))

  -- an address that is known
  long_lock : (x v w : ℕ) (st : State) (q : Registers) (m : Memory) (pc : ℕ) → Code g.space pc (long 5 v ++ store_value h 5 x) to → InSlot h x → v < 4294967296 → v ≡ w →
      Holds g gs l y h st callers m → Fast gs q (lowest gs st.rooms st.deeper) st.frame → Comes g 3 5 (Live (cpu q m pc) st.world) (Same g gs l y (Running k (i + 1) (record st { env = with_value st.env x w }) callers))
  unfolding with_any
  long_lock x v w st q m pc code lx small same me e =
      widen g (1 + 2) (3 + 2) 3 5 _ _
      (long_then g 1 3 q m pc st.world _ 5 v (stands_left g.space pc (long 5 v) _ code.stand) refl small
      (defined g gs l y laid k i r here callers st (with_any q 5 v) m (pc + 8) 5 x w me e same refl lx (behind g.space pc to (long 5 v) _ code)))
      (omega arith) (omega arith)

  pub global_lock : (x w : ℕ) → Locked (Global x w)
  global_lock x w st c at ok is =
      begins g gs l y laid k i r here callers (Plain (Global x w)) st 1 7 c _ at is (λ q m pc me e code.
      let word : w < l.globals = ok.there.0 in
      let few = laid.globals_few in
      let high = laid.globals_high in
      let base = laid.globals_at in
      widen g 3 5 1 7 _ _
      (long_lock x (y.addresses.globals + 4 * w) (gs.place.globals_at + 4 * w) st q m pc code ok.numbers.0 (omega arith) (ap (λ n. n + 4 * w) base) me e)
      (omega arith) (omega arith))

  pub text_lock : (x b : ℕ) → Locked (Text x b)
  text_lock x b st c at ok is =
      begins g gs l y laid k i r here callers (Plain (Text x b)) st 1 7 c _ at is (λ q m pc me e code.
      let byte : b < length l.texts = ok.there.0 in
      let t = laid.texts_high in
      let high = laid.globals_high in
      let base = laid.texts_at in
      widen g 3 5 1 7 _ _
      (long_lock x (y.addresses.texts + b) (gs.place.texts_at + b) st q m pc code ok.numbers.0 (omega arith) (ap (λ n. n + b) base) me e)
      (omega arith) (omega arith))

  pub heap_lock : (x : ℕ) → Locked (Heap x)
  heap_lock x st c at ok is =
      begins g gs l y laid k i r here callers (Plain (Heap x)) st 1 4 c _ at is (λ q m pc me e code.
      widen g 1 3 1 4 _ _
      (defined g gs l y laid k i r here callers st q m pc 4 x (heap_at gs) me e e.4 refl ok.numbers.0 code)
      (omega arith) (omega arith))

  pub frame_lock : (x w : ℕ) → Locked (Frame x w)
  unfolding with_any
  frame_lock x w st c at ok is =
      begins g gs l y laid k i r here callers (Plain (Frame x w)) st 1 7 c _ at is (λ q m pc me e code.
      let word : w < r.words = ok.there.0 in
      let few = me.active.room in
      let words = me.active.words in
      let top = below_top g gs l y m h st.frame callers me.below in
      let small = end_small g gs l y laid h st.rooms st.deeper st.frame st.taken st.env st.cells callers m me in
      let o : ℕ = 4 * cut w in
      let same : st.frame + o ≡ st.frame + 4 * w = omega arith in
      widen g (1 + 1) (3 + 3) 1 7 _ _
      (address_then g 1 3 q m pc st.world _ (is_near o) 5 2 o (st.frame + 4 * w) (stands_left g.space pc (address_word 5 2 o) _ code.stand) refl refl (ap (λ n. n + o) e.2 ∙ same) (omega arith) (λ z.
      defined g gs l y laid k i r here callers st (with_any (with_any q 7 z) 5 (st.frame + 4 * w)) m _ 5 x (st.frame + 4 * w) me e refl refl ok.numbers.0 (behind g.space pc to (address_word 5 2 o) _ code)))
      (omega arith) (omega arith))

  pub compute_lock : (x : ℕ) (op : RegisterOp) (a b : ℕ) → Locked (Compute x op a b)
  unfolding with_any
  compute_lock x op a b st c at ok is =
      needed g gs l y laid k i r here callers (i + 1) (st.env a) st 0 _ c 1 10 (omega arith) (λ v va.
      needed g gs l y laid k i r here callers (i + 1) (st.env b) st 0 _ c 1 10 (omega arith) (λ w wb.
      begins g gs l y laid k i r here callers (Plain (Compute x op a b)) st 1 10 c _ at is (λ q m pc me e code.
      widen g (1 + 1 + 1 + 1) (3 + 1 + 3 + 3) 1 10 _ _
      (value_then g gs l y laid k i r here callers (1 + 1 + 1) (3 + 1 + 3) st q m pc to 5 a v _ _ me e.2 va refl code (λ z n code1.
      value_then g gs l y laid k i r here callers (1 + 1) (3 + 1) st (with_any (with_any q 7 z) 5 v) m n to 6 b w _ _ me e.2 wb refl code1 (λ z2 n2 code2.
      let q2 : Registers = with_any (with_any (with_any (with_any q 7 z) 5 v) 7 z2) 6 w in
      combine g 1 3 q2 m n2 st.world _ op 5 5 6 (register_value op v w) code2.stand.0 refl refl
      (defined g gs l y laid k i r here callers st (with_any q2 5 (register_value op v w)) m (n2 + 4) 5 x (register_value op v w) me e refl refl ok.numbers.1.1.0 (after g.space n2 to (Register op 5 5 6) _ code2)))))
      (omega arith) (omega arith))))

  pub load_lock : (x : ℕ) (width : Width) (a : ℕ) → Locked (Load x width a)
  unfolding with_any
  load_lock x width a st c at ok is =
      needed g gs l y laid k i r here callers (i + 1) (st.env a) st 0 _ c 1 7 (omega arith) (λ v va.
      needed g gs l y laid k i r here callers (i + 1) (loaded width st.cells v) st 0 _ c 1 7 (omega arith) (λ w wv.
      begins g gs l y laid k i r here callers (Plain (Load x width a)) st 1 7 c _ at is (λ q m pc me e code.
      let ld = loads g gs l y laid h st.rooms st.deeper st.frame st.taken st.env st.cells callers m me width v w wv in
      let small = ld.may.small in
      widen g (1 + 1 + 1) (3 + 1 + 3) 1 7 _ _
      (value_then g gs l y laid k i r here callers (1 + 1) (3 + 1) st q m pc to 5 a v _ _ me e.2 va refl code (λ z n code1.
      let q1 : Registers = with_any (with_any q 7 z) 5 v in
      load g 1 3 q1 m n st.world _ (load_kind width) 5 5 0 v code1.stand.0 refl (omega arith) ld.may
      (defined g gs l y laid k i r here callers st (with_any q1 5 (loaded_from (load_kind width) m v)) m (n + 4) 5 x w me e ld.is_word refl ok.numbers.1.0 (after g.space n to (LoadInto (load_kind width) 5 5 0) _ code1))))
      (omega arith) (omega arith))))

  pub store_lock : (width : Width) (a b : ℕ) → Locked (Store width a b)
  unfolding with_any
  store_lock width a b st c at ok is =
      needed g gs l y laid k i r here callers (i + 1) (st.env a) st 0 _ c 1 7 (omega arith) (λ v va.
      needed g gs l y laid k i r here callers (i + 1) (st.env b) st 0 _ c 1 7 (omega arith) (λ w wb.
      needed g gs l y laid k i r here callers (i + 1) (stored width st.cells v w) st 0 _ c 1 7 (omega arith) (λ cells wc.
      begins g gs l y laid k i r here callers (Plain (Store width a b)) st 1 7 c _ at is (λ q m pc me e code.
      let sd = stores g gs l y laid h st.rooms st.deeper st.frame st.taken st.env st.cells callers m me width v w cells wc in
      let small = sd.may.small in
      widen g (0 + 1 + 1 + 1) (0 + 1 + 3 + 3) 1 7 _ _
      (value_then g gs l y laid k i r here callers (0 + 1 + 1) (0 + 1 + 3) st q m pc to 5 a v _ _ me e.2 va refl code (λ z n code1.
      value_then g gs l y laid k i r here callers (0 + 1) (0 + 1) st (with_any (with_any q 7 z) 5 v) m n to 6 b w _ _ me e.2 wb refl code1 (λ z2 n2 code2.
      let q2 : Registers = with_any (with_any (with_any (with_any q 7 z) 5 v) 7 z2) 6 w in
      store g 0 0 q2 m n2 st.world _ (store_kind width) 5 6 0 v code2.stand.0 (omega arith) sd.may
      (goes_on g gs l y laid k i r here callers (record st { cells = cells }) q2 (stored_to (store_kind width) m v w) (n2 + 4) (i + 1) sd.held e code2.end))))
      (omega arith) (omega arith)))))
