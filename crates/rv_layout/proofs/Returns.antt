-- A return runs in lock step: the values go to the caller one by one, and the caller goes on, or the end is asked for.
use Rattle.std.proofs.Common.{◌≡◌, ℕ, ◌+◌, ◌-◌, ◌*◌, ◌%◌, ◌≤◌, List, [], ◌∷◌, length, Option, Some, None, refl, arith, ap, sym, ◌∙◌, subst}
use Rattle.std.specs.Prelude.{slice_get}
use Rattle.std.specs.List.{AllByRecursion as Each}
use Rattle.rv_isa.specs.declared.instr.Instr.{Instr}
use Rattle.rv_isa.specs.declared.instr.Instr.TheVariants.{Jalr, Load as LoadInto, Register}
use Rattle.rv_isa.specs.declared.instr.LoadKind.TheVariants.{Word}
use Rattle.rv_isa.specs.declared.instr.ImmediateOp.TheVariants.{Addi}
use Rattle.rv_isa.specs.declared.instr.RegisterOp.TheVariants.{Add}
use Rattle.rv_isa.specs.declared.service.Service.TheVariants.{End}
use Rattle.rv_isa.specs.Memory.{Memory, word_at, with_word}
use Rattle.rv_isa.specs.Step.{Registers, with_any}
use Rattle.rv_image.specs.Streams.{World}
use Rattle.ir_form.specs.Place.{Setting}
use Rattle.ir_form.specs.Cells.{Closed, with_range}
use Rattle.ir_form.specs.State.{Env, State, words_of, listed, bound, with_value, Ended, Run, needs}
use Rattle.ir_form.specs.Units.{Head, restored}
use Rattle.rv_flat.specs.declared.linear.Instruction.TheVariants.{Back}
use Rattle.rv_flat.specs.declared.linear.LinearRoutine.{LinearRoutine}
use Rattle.rv_flat.specs.declared.linear.Linear.{Linear}
use Rattle.rv_flat.specs.Units.{head_of}
use Rattle.rv_frames.specs.Frames.{Caller, Running, Halted, executes, goes_on_run, all_kept}
use Rattle.rv_runs.specs.Moments.{Ground, Moment, Live, Comes}
use Rattle.rv_runs.proofs.Comes.{done, widen}
use Rattle.rv_runs.proofs.Places.{stands_left}
use Rattle.rv_runs.proofs.Steps.{cpu, immediate, combine, load, jump, link, ask, asked_end}
use Rattle.rv_layout.specs.Pieces.{is_near, minus, constant, store_word}
use Rattle.rv_layout.specs.Rooms.{slot, head_at, room_bytes}
use Rattle.rv_layout.specs.Calling.{giving_each, taking_each, receiving, returning}
use Rattle.rv_layout.specs.Ready.{InSlot}
use Rattle.rv_layout.specs.Held.{Code, Layout, Laid, IsEven, resume, lowest, Holds, Fast, LiveAt, Same}
use Rattle.rv_layout.proofs.Slots.{behind, after, store_then, constant_then}
use Rattle.rv_layout.proofs.Stores.{below_top}
use Rattle.rv_layout.proofs.Access.{end_small, room_word, slot_word}
use Rattle.rv_layout.proofs.Begins.{wanted, value_then, begins}
use Rattle.rv_layout.proofs.Ranges.{code_even, jumped}
use Rattle.rv_layout.proofs.Returned.{with_values, held_received, held_returned}

-- a value that must be there, before a routine goes on
pub needed_in : {A : Type 0} → (g : Ground) (gs : Setting) (l : Linear) (y : Layout) (k j : ℕ) (callers : List Caller) (o : Option A) (st : State) (cost : ℕ) (go : A → Run) (x : Moment) (lo hi : ℕ) → lo ≤ hi →
    ((v : A) → o ≡ Some v → Comes g lo hi x (Same g gs l y (goes_on_run k j callers (go v)))) → Comes g lo hi x (Same g gs l y (goes_on_run k j callers (needs o st cost go)))
needed_in g gs l y k j callers None st cost go x lo hi le f = record { count = lo; low = omega arith; high = le; there = tt }
needed_in g gs l y k j callers (Some v) st cost go x lo hi le f = f v refl

-- one value after the other
pub first_word : (o : Option ℕ) (os : Option (List ℕ)) (ws : List ℕ) → listed o os ≡ Some ws → (w : ℕ) × (rest : List ℕ) × (o ≡ Some w) × (os ≡ Some rest) × (ws ≡ w ∷ rest)
first_word None os ws e = absurd (cc)
first_word (Some w) None ws e = absurd (cc)
first_word (Some w) (Some rest) ws e = (w, rest, refl, refl, cc)

-- how many instructions give values, and take what is given
abbrev gave : List ℕ → ℕ
gave [] = 1
gave (v ∷ vs) = 4

abbrev took : List ℕ → ℕ
took [] = 1
took (v ∷ vs) = 6 + 8 * length vs

gave_took : (vs : List ℕ) → took vs + gave vs ≤ 2 + 8 * length vs
gave_took [] = omega arith
gave_took (v ∷ vs) = omega arith

module _ (g : Ground) (gs : Setting) (l : Linear) (y : Layout) (laid : Laid g gs l y) (k i : ℕ) (r : LinearRoutine) (here : slice_get l.routines k ≡ Some r) (last : ℕ) (even : IsEven last) where
  abbrev h : Head
  h = head_of r

  -- the first of the values is in register 5, and register 8 leads to where the others are given
  abbrev pub Arrived : List ℕ → List ℕ → Registers → Type 0
  Arrived [] ws q = Unit {0}
  Arrived (v ∷ vs) [] q = Unit {0}
  Arrived (v ∷ vs) (w ∷ ws) q = (q 5 ≡ w) × Code g.space (q 8) (giving_each h vs) last

  giving_then : (a b : ℕ) (vs ws : List ℕ) (st : State) (callers : List Caller) (q : Registers) (m : Memory) (pc low : ℕ) (P : Moment → Type 0) → Holds g gs l y h st callers m → Fast gs q low st.frame → IsEven (q 8) → words_of st.env vs ≡ Some ws → Code g.space pc (giving_each h vs) last →
      ((z : Registers) → Arrived vs ws z → Fast gs z low st.frame → z 9 ≡ q 9 → Comes g a b (Live (cpu z m (q 8)) st.world) P) → Comes g (a + 1) (b + gave vs) (Live (cpu q m pc) st.world) P
  unfolding with_any
  giving_then a b [] ws st callers q m pc low P is e even8 av code f = jump g a b q m pc st.world P 8 0 (q 8) code.stand.0 (jumped (q 8) even8) (f q tt e refl)
  giving_then a b (v ∷ vs) ws st callers q m pc low P is e even8 av code f =
      let d = first_word (st.env v) (words_of st.env vs) ws av in
      widen g (a + 1 + 1) (b + 1 + 3) (a + 1) (b + 4) _ P
      (value_then g gs l y laid k i r here callers (a + 1) (b + 1) st q m pc last 5 v d.0 _ P is e.2 d.2 refl code (λ z n code1.
      link g a b (with_any (with_any q 7 z) 5 d.0) m n st.world P 8 8 0 (q 8) code1.stand.0 refl (jumped (q 8) even8)
      (f (with_any (with_any (with_any q 7 z) 5 d.0) 8 (n + 4)) (subst (λ us. Arrived (v ∷ vs) us (with_any (with_any (with_any q 7 z) 5 d.0) 8 (n + 4))) (sym d.4) (refl, after g.space n last (Jalr 8 8 0) (giving_each h vs) code1)) e refl)))
      (omega arith) (omega arith)

  -- the caller takes its results, and goes on
  module _ (f : Caller) (callers : List Caller) (st : State) where
    abbrev hf : Head
    hf = head_at l.routines f.routine

    abbrev Taking : Env → Memory → Type 0
    Taking e m = Holds g gs l y h st (with_values f e ∷ callers) m

    abbrev Goes : Env → Moment → Type 0
    Goes e x = Same g gs l y (Running f.routine f.place (record (restored h f.state st) { env = e }) callers) x

    no_more : (env new : Env) (w : ℕ) (ws : List ℕ) → bound [] (w ∷ ws) env ≡ Some new → ⊥
    no_more env new w ws e = cc

    taking_then : (vs ts ws : List ℕ) (e new : Env) (q : Registers) (m : Memory) (pc : ℕ) → Taking e m → Fast gs q (lowest gs f.state.rooms f.state.deeper) st.frame → q 9 ≡ f.state.frame → words_of st.env vs ≡ Some ws → bound ts ws e ≡ Some new →
        Each (InSlot hf) ts → Arrived vs ws q → Code g.space pc (taking_each hf ts) (y.place f.routine f.place) → Comes g 1 (took vs) (Live (cpu q m pc) st.world) (Goes new)
    unfolding with_any
    taking_then [] [] [] e new q m pc is fast e9 av bv lows there code =
        let same : e ≡ new = cc in
        let w = is.below.0 in
        let low = w.active.top in
        let top = below_top g gs l y m hf f.state.frame callers is.below.1 in
        let small = end_small g gs l y laid h st.rooms st.deeper st.frame st.taken st.env st.cells (with_values f e ∷ callers) m is in
        let v : (f.state.frame + 0) % 4294967296 ≡ f.state.frame = omega arith in
        immediate g 0 0 q m pc st.world (Goes new) Addi 2 9 0 f.state.frame code.stand.0 refl (ap (λ n. (n + 0) % 4294967296) e9 ∙ v)
        (done g _ (Goes new) (record {
          cpu = cpu (with_any q 2 f.state.frame) m (pc + 4);
          is = refl;
          at = code.end;
          fast = (fast.0, fast.1, refl, fast.3, fast.4);
          holds = subst (λ n. Holds g gs l y hf (record (restored h f.state st) { env = n }) callers m) same (held_returned g gs l y h st.rooms st.deeper st.frame st.taken st.env st.cells f callers e m is);
        }))
    taking_then [] [] (w ∷ ws) e new q m pc is fast e9 av bv lows there code = absurd (no_more e new w ws bv)
    taking_then [] (t ∷ ts) [] e new q m pc is fast e9 av bv lows there code = absurd (cc)
    taking_then [] (t ∷ ts) (w ∷ ws) e new q m pc is fast e9 av bv lows there code = absurd (cc)
    taking_then (v ∷ vs) ts [] e new q m pc is fast e9 av bv lows there code = let d = first_word (st.env v) (words_of st.env vs) [] av in absurd (cc)
    taking_then (v ∷ vs) [] (w ∷ ws) e new q m pc is fast e9 av bv lows there code = absurd (no_more e new w ws bv)
    taking_then (v ∷ vs) (t ∷ ts) (w ∷ ws) e new q m pc is fast e9 av bv lows there code =
        let d = first_word (st.env v) (words_of st.env vs) (w ∷ ws) av in
        let rest : words_of st.env vs ≡ Some ws = (let p = d.3 in let s = d.4 in cc) in
        let me = held_returned g gs l y h st.rooms st.deeper st.frame st.taken st.env st.cells f callers e m is in
        let word = slot_word g gs l y laid hf f.state.rooms f.state.deeper f.state.frame f.state.taken e (with_range st.cells (st.frame - 4 * st.taken) (st.taken + h.words) Closed) callers m me t lows.0 in
        let n : Memory = with_word m (f.state.frame + slot hf t) w in
        let put : List Instr = store_word 5 9 (slot hf t) in
        let at : ℕ = pc + 4 * length put in
        let code1 = behind g.space pc (y.place f.routine f.place) put (Jalr 8 8 0 ∷ taking_each hf ts) code in
        let code2 = after g.space at (y.place f.routine f.place) (Jalr 8 8 0) (taking_each hf ts) code1 in
        let even2 = code_even g.space (at + 4) (y.place f.routine f.place) (taking_each hf ts) code2 (laid.even_place f.routine f.place) in
        let even8 = code_even g.space (q 8) last (giving_each h vs) there.1 even in
        let cost = gave_took vs in
        widen g (1 + 1 + 1 + 1) (took vs + gave vs + 1 + 3) 1 (6 + 8 * length vs) _ _
        (store_then g (1 + 1 + 1) (took vs + gave vs + 1) q m pc st.world (Goes new) (is_near (slot hf t)) 5 9 (slot hf t) (f.state.frame + slot hf t) w (stands_left g.space pc put _ code.stand) refl refl (ap (λ o. o + slot hf t) e9) there.0 word.1 (λ z.
        link g (1 + 1) (took vs + gave vs) (with_any q 7 z) n at st.world (Goes new) 8 8 0 (q 8) code1.stand.0 refl (jumped (q 8) even8)
        (giving_then 1 (took vs) vs ws st (with_values f (with_value e t w) ∷ callers) (with_any (with_any q 7 z) 8 (at + 4)) n (q 8) (lowest gs f.state.rooms f.state.deeper) (Goes new)
        (held_received g gs l y h st.rooms st.deeper st.frame st.taken st.env st.cells f callers e m t w lows.0 is) fast even2 rest there.1 (λ u arrived fast2 e92.
        taking_then vs ts ws (with_value e t w) new u n (at + 4) (held_received g gs l y h st.rooms st.deeper st.frame st.taken st.env st.cells f callers e m t w lows.0 is) fast2 (e92 ∙ e9) rest bv lows.1 arrived code2))))
        (omega arith) (omega arith)

    -- the caller's frame comes first
    receiving_then : (vs ws : List ℕ) (new : Env) (q : Registers) (m : Memory) (pc : ℕ) → Taking f.state.env m → Fast gs q (st.frame + 4 * h.room) st.frame → words_of st.env vs ≡ Some ws → bound f.to ws f.state.env ≡ Some new →
        Arrived vs ws q → Code g.space pc (receiving hf f.to) (y.place f.routine f.place) → Comes g 1 (took vs + 1) (Live (cpu q m pc) st.world) (Goes new)
    unfolding with_any
    receiving_then vs ws new q m pc is fast av bv there code =
        let w = is.below.0 in
        let words = is.active.words in
        let all : List Caller = f ∷ callers in
        let word = room_word g gs l y laid h st.rooms st.deeper st.frame st.taken st.env st.cells all m is (4 * h.room - 8) (omega arith) (omega arith) in
        let top = below_top g gs l y m h st.frame all is.below in
        let small = end_small g gs l y laid h st.rooms st.deeper st.frame st.taken st.env st.cells all m is in
        let o : st.frame + (4 * h.room - 8) ≡ st.frame + 4 * h.room - 8 = omega arith in
        let at : (st.frame + 4 * h.room + minus 8) % 4294967296 ≡ st.frame + (4 * h.room - 8) = omega arith in
        let back : word_at m (st.frame + (4 * h.room - 8)) ≡ f.state.frame = ap (word_at m) o ∙ w.back in
        let q2 : Registers = with_any q 9 f.state.frame in
        widen g (1 + 1) (took vs + 1) 1 (took vs + 1) _ _
        (load g 1 (took vs) q m pc st.world (Goes new) Word 9 1 (minus 8) (st.frame + (4 * h.room - 8)) code.stand.0 refl (ap (λ n. (n + minus 8) % 4294967296) fast.1 ∙ at) word.0
        (rw back (taking_then vs f.to ws f.state.env new q2 m (pc + 4) is (fast.0, fast.1 ∙ w.roof, fast.2, fast.3, fast.4) refl av bv w.to (kept vs ws q there) (after g.space pc (y.place f.routine f.place) (LoadInto Word 9 1 (minus 8)) (taking_each hf f.to) code))))
        (omega arith) (omega arith)
      where
        kept : (vs ws : List ℕ) (q : Registers) → Arrived vs ws q → Arrived vs ws (with_any q 9 f.state.frame)
        kept [] ws q a = tt
        kept (v ∷ vs) [] q a = tt
        kept (v ∷ vs) (w ∷ ws) q a = a

  -- the end is asked for
  exit_then : (q : Registers) (m : Memory) (w : World) → q 0 ≡ 0 → Comes g 2 2 (Live (cpu q m y.exit) w) (Same g gs l y (Halted Ended (all_kept w)))
  unfolding with_any
  exit_then q m w z =
      immediate g 1 1 q m y.exit w (Same g gs l y (Halted Ended (all_kept w))) Addi 17 0 0 0 laid.exits.0 refl (ap (λ n. (n + 0) % 4294967296) z)
      (ask g 0 0 (with_any q 17 0) m (y.exit + 4) w (Same g gs l y (Halted Ended (all_kept w))) End laid.exits.1.0 (asked_end g.space (with_any q 17 0) refl)
      (done g _ (Same g gs l y (Halted Ended (all_kept w))) refl))

  -- where the words of a return begin, register 8 comes to have the way on
  leaving_then : (a b : ℕ) (vs : List ℕ) (st : State) (callers : List Caller) (q : Registers) (m : Memory) (pc low way : ℕ) (P : Moment → Type 0) → Holds g gs l y h st callers m → Fast gs q low st.frame → word_at m (st.frame + 4 * h.room - 4) ≡ way →
      Code g.space pc (returning h vs) last → ((z : Registers) (n : ℕ) → Fast gs z (st.frame + 4 * h.room) st.frame → z 8 ≡ way → Code g.space n (giving_each h vs) last → Comes g a b (Live (cpu z m n) st.world) P) → Comes g (a + 3) (b + 4) (Live (cpu q m pc) st.world) P
  unfolding with_any
  leaving_then a b vs st callers q m pc low way P is fast is_way code f =
      let few = is.active.room in
      let words = is.active.words in
      let top = below_top g gs l y m h st.frame callers is.below in
      let small = end_small g gs l y laid h st.rooms st.deeper st.frame st.taken st.env st.cells callers m is in
      let word = room_word g gs l y laid h st.rooms st.deeper st.frame st.taken st.env st.cells callers m is (4 * h.room - 4) (omega arith) (omega arith) in
      let size : List Instr = constant 1 (room_bytes h) in
      let tail : List Instr = LoadInto Word 8 1 (minus 4) ∷ giving_each h vs in
      let n : ℕ = pc + 4 * length size in
      let code1 = behind g.space pc last size (Register Add 1 1 2 ∷ tail) code in
      let code2 = after g.space n last (Register Add 1 1 2) tail code1 in
      let code3 = after g.space (n + 4) last (LoadInto Word 8 1 (minus 4)) (giving_each h vs) code2 in
      let roof : (room_bytes h + st.frame) % 4294967296 ≡ st.frame + 4 * h.room = omega arith in
      let o : st.frame + (4 * h.room - 4) ≡ st.frame + 4 * h.room - 4 = omega arith in
      let at : (st.frame + 4 * h.room + minus 4) % 4294967296 ≡ st.frame + (4 * h.room - 4) = omega arith in
      let q1 : Registers = with_any q 1 (room_bytes h) in
      let q2 : Registers = with_any q1 1 (st.frame + 4 * h.room) in
      widen g (a + 1 + 1 + 1) (b + 1 + 1 + 2) (a + 3) (b + 4) _ P
      (constant_then g (a + 1 + 1) (b + 1 + 1) q m pc st.world P (is_near (room_bytes h)) 1 (room_bytes h) (stands_left g.space pc size _ code.stand) refl fast.0 (omega arith)
      (combine g (a + 1) (b + 1) q1 m n st.world P Add 1 1 2 (st.frame + 4 * h.room) code1.stand.0 refl (ap (λ u. (room_bytes h + u) % 4294967296) fast.2 ∙ roof)
      (load g a b q2 m (n + 4) st.world P Word 8 1 (minus 4) (st.frame + (4 * h.room - 4)) code2.stand.0 refl at word.0
      (f (with_any q2 8 (word_at m (st.frame + (4 * h.room - 4)))) (n + 4 + 4) (fast.0, refl, fast.2, fast.3, fast.4) (ap (word_at m) o ∙ is_way) code3))))
      (omega arith) (omega arith)

-- the end of an activation, over its callers
module _ (g : Ground) (gs : Setting) (l : Linear) (y : Layout) (laid : Laid g gs l y) (k i : ℕ) (r : LinearRoutine) (here : slice_get l.routines k ≡ Some r) where
  abbrev to : ℕ
  to = y.place k (i + 1)

  ends_lock : (vs : List ℕ) (st : State) (c : Moment) → slice_get r.code i ≡ Some (Back vs) → LiveAt g gs l y k i (head_at l.routines k) st [] c → (ws : List ℕ) → words_of st.env vs ≡ Some ws →
      Comes g 1 (7 + 8 * length vs) c (Same g gs l y (Halted Ended (all_kept st.world)))
  ends_lock vs st c at is ws av =
      begins g gs l y laid k i r here [] (Back vs) st 1 (7 + 8 * length vs) c _ at is (λ q m pc me e code.
      widen g (2 + 1 + 3) (2 + gave vs + 4) 1 (7 + 8 * length vs) _ _
      (leaving_then g gs l y laid k i r here to (laid.even_place k (i + 1)) (2 + 1) (2 + gave vs) vs st [] q m pc (lowest gs st.rooms st.deeper) y.exit _ me e me.below.1 code (λ z n e2 way code2.
      giving_then g gs l y laid k i r here to (laid.even_place k (i + 1)) 2 2 vs ws st [] z m n (st.frame + 4 * (head_of r).room) _ me e2 (subst IsEven (sym way) laid.even_exit) av code2 (λ u arrived e3 e9.
      subst (λ p. Comes g 2 2 (Live (cpu u m p) st.world) (Same g gs l y (Halted Ended (all_kept st.world)))) (sym way)
      (exit_then g gs l y laid k i r here to (laid.even_place k (i + 1)) u m st.world e3.0))))
      (omega arith) (fits vs))
    where
      fits : (vs : List ℕ) → 2 + gave vs + 4 ≤ 7 + 8 * length vs
      fits [] = omega arith
      fits (v ∷ vs) = omega arith

  returns_lock : (vs : List ℕ) (st : State) (f : Caller) (callers : List Caller) (c : Moment) → slice_get r.code i ≡ Some (Back vs) → LiveAt g gs l y k i (head_at l.routines k) st (f ∷ callers) c → (ws : List ℕ) (new : Env) → words_of st.env vs ≡ Some ws →
      bound f.to ws f.state.env ≡ Some new → Comes g 1 (7 + 8 * length vs) c (Same g gs l y (Running f.routine f.place (record (restored (head_of r) f.state st) { env = new }) callers))
  returns_lock vs st f callers c at is ws new av bv =
      let cost = gave_took vs in
      begins g gs l y laid k i r here (f ∷ callers) (Back vs) st 1 (7 + 8 * length vs) c _ at is (λ q m pc me e code.
      let w = me.below.0 in
      let way_even = code_even g.space (resume l y f.routine f.place f.to) (y.place f.routine f.place) (receiving (head_at l.routines f.routine) f.to) w.code (laid.even_place f.routine f.place) in
      widen g (1 + 1 + 3) (took vs + 1 + gave vs + 4) 1 (7 + 8 * length vs) _ _
      (leaving_then g gs l y laid k i r here to (laid.even_place k (i + 1)) (1 + 1) (took vs + 1 + gave vs) vs st (f ∷ callers) q m pc (lowest gs st.rooms st.deeper) (resume l y f.routine f.place f.to) _ me e w.link code (λ z n e2 way code2.
      giving_then g gs l y laid k i r here to (laid.even_place k (i + 1)) 1 (took vs + 1) vs ws st (f ∷ callers) z m n (st.frame + 4 * (head_of r).room) _ me e2 (subst IsEven (sym way) way_even) av code2 (λ u arrived e3 e9.
      receiving_then g gs l y laid k i r here to (laid.even_place k (i + 1)) f callers st vs ws new u m (z 8) me e3 av bv arrived
      (subst (λ p. Code g.space p (receiving (head_at l.routines f.routine) f.to) (y.place f.routine f.place)) (sym way) w.code))))
      (omega arith) (omega arith))

  pub back_lock : (callers : List Caller) (vs : List ℕ) (st : State) (c : Moment) → slice_get r.code i ≡ Some (Back vs) → LiveAt g gs l y k i (head_at l.routines k) st callers c →
      Comes g 1 (7 + 8 * length vs) c (Same g gs l y (executes gs l r k i callers (Back vs) st))
  back_lock [] vs st c at is =
      wanted g gs l y laid k i r here [] (words_of st.env vs) st _ c 1 (7 + 8 * length vs) (omega arith) (λ ws av. ends_lock vs st c at is ws av)
  back_lock (f ∷ callers) vs st c at is =
      wanted g gs l y laid k i r here (f ∷ callers) (words_of st.env vs) st _ c 1 (7 + 8 * length vs) (omega arith) (λ ws av.
      needed_in g gs l y f.routine f.place callers (bound f.to ws f.state.env) _ _ _ c 1 (7 + 8 * length vs) (omega arith) (λ new bv. returns_lock vs st f callers c at is ws new av bv))
