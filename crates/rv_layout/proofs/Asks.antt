-- The services run in lock step.
use Rattle.std.proofs.Common.{◌≡◌, ℕ, ◌+◌, ◌%◌, ◌^◌, ◌<◌, ◌≤◌, Bool, true, false, leb, List, [], ◌∷◌, ◌++◌, append_assoc, Option, Some, None, refl, arith, ap, sym, ◌∙◌, subst}
use Rattle.std.specs.Prelude.{slice_get, ◌&&◌, if◌then◌else◌, map}
use Rattle.tu_base.specs.Trace.{Put}
use Rattle.rv_isa.specs.declared.instr.Instr.{Instr}
use Rattle.rv_isa.specs.declared.instr.Instr.TheVariants.{Immediate, Ecall}
use Rattle.rv_isa.specs.declared.instr.ImmediateOp.TheVariants.{Addi}
use Rattle.rv_isa.specs.declared.service.Service.{Service}
use Rattle.rv_isa.specs.declared.service.Service.TheVariants.{End, Stop, PutConsole, GetConsole, Open, Close, PutStream, GetStream, State as StateOf}
use Rattle.rv_isa.specs.Memory.{Memory}
use Rattle.rv_isa.specs.Step.{Registers, Space, with_any, asked as asked_by}
use Rattle.rv_image.specs.Streams.{AtItsEnd, StoppedBy, Served, Finishes, Replies, served, puts, opens, traced, stream}
use Rattle.ir_form.specs.declared.plain.Plain.TheVariants.{Ask}
use Rattle.ir_form.specs.Place.{Setting}
use Rattle.ir_form.specs.Cells.{memory_of}
use Rattle.ir_form.specs.Plain.{lends, on_word, replied, does}
use Rattle.ir_form.specs.State.{State, Run, needs}
use Rattle.ir_form.specs.Units.{Head}
use Rattle.rv_flat.specs.declared.linear.Instruction.TheVariants.{Plain}
use Rattle.rv_flat.specs.declared.linear.LinearRoutine.{LinearRoutine}
use Rattle.rv_flat.specs.declared.linear.Linear.{Linear}
use Rattle.rv_flat.specs.Units.{head_of}
use Rattle.rv_frames.specs.Frames.{Caller, goes_on_run, no_calls}
use Rattle.rv_runs.specs.Moments.{Ground, Moment, Live, Finished, told, Comes}
use Rattle.rv_runs.proofs.Comes.{done, widen}
use Rattle.rv_runs.proofs.Steps.{cpu, immediate, ask, asked_end, asked_stop, asked_put, asked_get, asked_open, asked_close, asked_put_stream, asked_get_stream, asked_state}
use Rattle.rv_layout.specs.Pieces.{ask as asking_for}
use Rattle.rv_layout.specs.Rooms.{head_at, load_value, store_value}
use Rattle.rv_layout.specs.Ready.{InSlot}
use Rattle.rv_layout.specs.Held.{Code, Layout, Laid, lowest, Holds, Fast, LiveAt, Same}
use Rattle.rv_layout.proofs.Slots.{after}
use Rattle.rv_layout.proofs.Access.{both, lent}
use Rattle.rv_layout.proofs.Begins.{Sane, value_then, begins, defined}

grouped : (s : Space) (pc to : ℕ) (xs ys zs : List Instr) → Code s pc ((xs ++ ys) ++ zs) to → Code s pc (xs ++ (ys ++ zs)) to
grouped s pc to xs ys zs c = subst (λ n. Code s pc n to) (append_assoc xs ys zs) c

module _ (g : Ground) (gs : Setting) (l : Linear) (y : Layout) (laid : Laid g gs l y) (k i : ℕ) (r : LinearRoutine) (here : slice_get l.routines k ≡ Some r) (callers : List Caller) where
  abbrev h : Head
  h = head_of r

  abbrev to : ℕ
  to = y.place k (i + 1)

  -- what follows an operation
  abbrev Then : Run → Moment → Type 0
  Then run x = Same g gs l y (goes_on_run k (i + 1) callers run) x

  -- a value of a service must be there
  word_at : (o : Option ℕ) (f : ℕ → Option Service) (st : State) (go : Service → Run) (c : Moment) (hi : ℕ) → 1 ≤ hi → ((w : ℕ) → o ≡ Some w → Comes g 1 hi c (Then (needs (f w) st 0 go))) →
      Comes g 1 hi c (Then (needs (elim o [ Some w ↦ f w | None ↦ None ]) st 0 go))
  word_at None f st go c hi le k = record { count = 1; low = omega arith; high = le; there = tt }
  word_at (Some w) f st go c hi le k = k w refl

  word_of : (x : ℕ) (f : ℕ → Option Service) (st : State) (go : Service → Run) (c : Moment) (hi : ℕ) → 1 ≤ hi → ((w : ℕ) → st.env x ≡ Some w → Comes g 1 hi c (Then (needs (f w) st 0 go))) →
      Comes g 1 hi c (Then (needs (on_word st.env x f) st 0 go))
  word_of x f st go c hi le k = word_at (st.env x) f st go c hi le k

  -- a service must be accepted
  accepted_at : (b : Bool) (what : Service) (st : State) (go : Service → Run) (c : Moment) (hi : ℕ) → 1 ≤ hi → (b ≡ true → Comes g 1 hi c (Then (go what))) → Comes g 1 hi c (Then (needs (if b then Some what else None) st 0 go))
  accepted_at true what st go c hi le k = k refl
  accepted_at false what st go c hi le k = record { count = 1; low = omega arith; high = le; there = tt }

  -- the reply goes into its slot, or all is over
  reply_then : (x : ℕ) (st : State) (q : Registers) (m : Memory) (pc : ℕ) (sv : Served) → Holds g gs l y h st callers m → Fast gs q (lowest gs st.rooms st.deeper) st.frame → InSlot h x → Code g.space pc (store_value h 10 x) to →
      Comes g 0 3 (told (cpu q m pc) sv) (Then (replied x sv st 0))
  unfolding with_any
  reply_then x st q m pc (Finishes AtItsEnd w) me e lx code = widen g 0 0 0 3 _ _ (done g _ (λ z. z ≡ Finished AtItsEnd w) refl) (omega arith) (omega arith)
  reply_then x st q m pc (Finishes (StoppedBy kind line) w) me e lx code = widen g 0 0 0 3 _ _ (done g _ (λ z. z ≡ Finished (StoppedBy kind line) w) refl) (omega arith) (omega arith)
  reply_then x st q m pc (Replies reply w) me e lx code =
      widen g 1 3 0 3 _ _
      (defined g gs l y laid k i r here callers (record st { world = w }) (with_any q 10 reply) m pc 10 x reply me e refl refl lx code)
      (omega arith) (omega arith)

  -- the service is asked for
  ask_then : (x n : ℕ) (what : Service) (st : State) (q : Registers) (m : Memory) (pc : ℕ) → Holds g gs l y h st callers m → Fast gs q (lowest gs st.rooms st.deeper) st.frame → InSlot h x → n < 9 → asked_by g.space (with_any q 17 n) ≡ Some what →
      served g.folder m what st.world ≡ served gs.folder (memory_of st.cells) what st.world → Code g.space pc (asking_for n ++ store_value h 10 x) to →
      Comes g 2 5 (Live (cpu q m pc) st.world) (Then (replied x (served gs.folder (memory_of st.cells) what st.world) st 0))
  unfolding with_any
  ask_then x n what st q m pc me e lx small_n is_asked same code =
      let small : (0 + n) % 2 ^ 32 ≡ n = omega arith in
      let c1 = after g.space pc to (small_words n) (Ecall ∷ store_value h 10 x) code in
      let c2 = after g.space (pc + 4) to Ecall (store_value h 10 x) c1 in
      let q1 : Registers = with_any q 17 n in
      widen g (0 + 1 + 1) (3 + 1 + 1) 2 5 _ _
      (immediate g (0 + 1) (3 + 1) q m pc st.world _ Addi 17 0 n n code.stand.0 refl (ap (λ z. (z + n) % 2 ^ 32) e.0 ∙ small)
      (ask g 0 3 q1 m (pc + 4) st.world _ what c1.stand.0 is_asked
      (rw same (reply_then x st q1 m (pc + 4 + 4) (served gs.folder (memory_of st.cells) what st.world) me e lx c2))))
      (omega arith) (omega arith)
    where
      small_words : ℕ → Instr
      small_words n = Immediate Addi 17 0 n

  abbrev Asked : Service → Type 0
  Asked s = (x : ℕ) (st : State) (c : Moment) → slice_get r.code i ≡ Some (Plain (Ask x s)) → Sane l r (Plain (Ask x s)) → LiveAt g gs l y k i (head_at l.routines k) st callers c →
      Comes g 1 14 c (Same g gs l y (goes_on_run k (i + 1) callers (does gs no_calls (Ask x s) st 0)))

  end_lock : Asked End
  unfolding with_any
  end_lock x st c at ok is =
      begins g gs l y laid k i r here callers (Plain (Ask x End)) st 1 14 c _ at is (λ q m pc me e code.
      widen g 2 5 1 14 _ _
      (ask_then x 0 End st q m pc me e ok.numbers.0 (omega arith) (asked_end g.space (with_any q 17 0) refl) refl code)
      (omega arith) (omega arith))

  get_lock : Asked GetConsole
  unfolding with_any
  get_lock x st c at ok is =
      begins g gs l y laid k i r here callers (Plain (Ask x GetConsole)) st 1 14 c _ at is (λ q m pc me e code.
      widen g 2 5 1 14 _ _
      (ask_then x 3 GetConsole st q m pc me e ok.numbers.0 (omega arith) (asked_get g.space (with_any q 17 3) refl) refl code)
      (omega arith) (omega arith))

  -- a service of one value, which is accepted always
  one_then : (v n : ℕ) (x a : ℕ) (what : Service) (st : State) (q : Registers) (m : Memory) (pc : ℕ) → Holds g gs l y h st callers m → Fast gs q (lowest gs st.rooms st.deeper) st.frame → InSlot h x → n < 9 → st.env a ≡ Some v →
      ((p : Registers) → p 17 ≡ n → p 10 ≡ v → asked_by g.space p ≡ Some what) → served g.folder m what st.world ≡ served gs.folder (memory_of st.cells) what st.world →
      Code g.space pc ((load_value h 10 a ++ []) ++ (asking_for n ++ store_value h 10 x)) to →
      Comes g 1 14 (Live (cpu q m pc) st.world) (Then (replied x (served gs.folder (memory_of st.cells) what st.world) st 0))
  unfolding with_any
  one_then v n x a what st q m pc me e lx small_n va is_asked same code =
      widen g (2 + 1) (5 + 3) 1 14 _ _
      (value_then g gs l y laid k i r here callers 2 5 st q m pc to 10 a v _ _ me e.2 va refl (grouped g.space pc to (load_value h 10 a) [] (asking_for n ++ store_value h 10 x) code) (λ z j code1.
      ask_then x n what st (with_any (with_any q 7 z) 10 v) m j me e lx small_n (is_asked (with_any (with_any (with_any q 7 z) 10 v) 17 n) refl refl) same code1))
      (omega arith) (omega arith)

  -- of two
  two_then : (v w n : ℕ) (x a b : ℕ) (what : Service) (st : State) (q : Registers) (m : Memory) (pc : ℕ) → Holds g gs l y h st callers m → Fast gs q (lowest gs st.rooms st.deeper) st.frame → InSlot h x → n < 9 → st.env a ≡ Some v → st.env b ≡ Some w →
      ((p : Registers) → p 17 ≡ n → p 10 ≡ v → p 11 ≡ w → asked_by g.space p ≡ Some what) → served g.folder m what st.world ≡ served gs.folder (memory_of st.cells) what st.world →
      Code g.space pc ((load_value h 10 a ++ (load_value h 11 b ++ [])) ++ (asking_for n ++ store_value h 10 x)) to →
      Comes g 1 14 (Live (cpu q m pc) st.world) (Then (replied x (served gs.folder (memory_of st.cells) what st.world) st 0))
  unfolding with_any
  two_then v w n x a b what st q m pc me e lx small_n va wb is_asked same code =
      let ends : List Instr = asking_for n ++ store_value h 10 x in
      widen g (2 + 1 + 1) (5 + 3 + 3) 1 14 _ _
      (value_then g gs l y laid k i r here callers (2 + 1) (5 + 3) st q m pc to 10 a v _ _ me e.2 va refl (grouped g.space pc to (load_value h 10 a) (load_value h 11 b ++ []) ends code) (λ z j code1.
      value_then g gs l y laid k i r here callers 2 5 st (with_any (with_any q 7 z) 10 v) m j to 11 b w _ _ me e.2 wb refl (grouped g.space j to (load_value h 11 b) [] ends code1) (λ z2 j2 code2.
      ask_then x n what st (with_any (with_any (with_any (with_any q 7 z) 10 v) 7 z2) 11 w) m j2 me e lx small_n (is_asked (with_any (with_any (with_any (with_any (with_any q 7 z) 10 v) 7 z2) 11 w) 17 n) refl refl refl) same code2)))
      (omega arith) (omega arith)

  -- and of three
  three_then : (v w u n : ℕ) (x a b d : ℕ) (what : Service) (st : State) (q : Registers) (m : Memory) (pc : ℕ) → Holds g gs l y h st callers m → Fast gs q (lowest gs st.rooms st.deeper) st.frame → InSlot h x → n < 9 → st.env a ≡ Some v → st.env b ≡ Some w → st.env d ≡ Some u →
      ((p : Registers) → p 17 ≡ n → p 10 ≡ v → p 11 ≡ w → p 12 ≡ u → asked_by g.space p ≡ Some what) → served g.folder m what st.world ≡ served gs.folder (memory_of st.cells) what st.world →
      Code g.space pc ((load_value h 10 a ++ (load_value h 11 b ++ (load_value h 12 d ++ []))) ++ (asking_for n ++ store_value h 10 x)) to →
      Comes g 1 14 (Live (cpu q m pc) st.world) (Then (replied x (served gs.folder (memory_of st.cells) what st.world) st 0))
  unfolding with_any
  three_then v w u n x a b d what st q m pc me e lx small_n va wb ud is_asked same code =
      let ends : List Instr = asking_for n ++ store_value h 10 x in
      widen g (2 + 1 + 1 + 1) (5 + 3 + 3 + 3) 1 14 _ _
      (value_then g gs l y laid k i r here callers (2 + 1 + 1) (5 + 3 + 3) st q m pc to 10 a v _ _ me e.2 va refl (grouped g.space pc to (load_value h 10 a) (load_value h 11 b ++ (load_value h 12 d ++ [])) ends code) (λ z j code1.
      value_then g gs l y laid k i r here callers (2 + 1) (5 + 3) st (with_any (with_any q 7 z) 10 v) m j to 11 b w _ _ me e.2 wb refl (grouped g.space j to (load_value h 11 b) (load_value h 12 d ++ []) ends code1) (λ z2 j2 code2.
      value_then g gs l y laid k i r here callers 2 5 st (with_any (with_any (with_any (with_any q 7 z) 10 v) 7 z2) 11 w) m j2 to 12 d u _ _ me e.2 ud refl (grouped g.space j2 to (load_value h 12 d) [] ends code2) (λ z3 j3 code3.
      ask_then x n what st (with_any (with_any (with_any (with_any (with_any (with_any q 7 z) 10 v) 7 z2) 11 w) 7 z3) 12 u) m j3 me e lx small_n (is_asked (with_any (with_any (with_any (with_any (with_any (with_any (with_any q 7 z) 10 v) 7 z2) 11 w) 7 z3) 12 u) 17 n) refl refl refl refl) same code3))))
      (omega arith) (omega arith)

  close_lock : (a : ℕ) → Asked (Close a)
  close_lock a x st c at ok is =
      word_of a (λ v. Some (Close v)) st _ c 14 (omega arith) (λ v va.
      begins g gs l y laid k i r here callers (Plain (Ask x (Close a))) st 1 14 c _ at is (λ q m pc me e code.
      one_then v 5 x a (Close v) st q m pc me e ok.numbers.1.0 (omega arith) va (λ p f f0. asked_close g.space p v f f0) (ap (λ n. served n m (Close v) st.world) laid.folder) code))

  get_stream_lock : (a : ℕ) → Asked (GetStream a)
  get_stream_lock a x st c at ok is =
      word_of a (λ v. Some (GetStream v)) st _ c 14 (omega arith) (λ v va.
      begins g gs l y laid k i r here callers (Plain (Ask x (GetStream a))) st 1 14 c _ at is (λ q m pc me e code.
      one_then v 7 x a (GetStream v) st q m pc me e ok.numbers.1.0 (omega arith) va (λ p f f0. asked_get_stream g.space p v f f0) refl code))

  state_lock : (a : ℕ) → Asked (StateOf a)
  state_lock a x st c at ok is =
      word_of a (λ v. Some (StateOf v)) st _ c 14 (omega arith) (λ v va.
      begins g gs l y laid k i r here callers (Plain (Ask x (StateOf a))) st 1 14 c _ at is (λ q m pc me e code.
      one_then v 8 x a (StateOf v) st q m pc me e ok.numbers.1.0 (omega arith) va (λ p f f0. asked_state g.space p v f f0) refl code))

  stop_lock : (a b : ℕ) → Asked (Stop a b)
  stop_lock a b x st c at ok is =
      word_of a (λ v. on_word st.env b (λ w. Some (Stop v w))) st _ c 14 (omega arith) (λ v va.
      word_of b (λ w. Some (Stop v w)) st _ c 14 (omega arith) (λ w wb.
      accepted_at (leb 1 v && leb v 21) (Stop v w) st _ c 14 (omega arith) (λ may.
      begins g gs l y laid k i r here callers (Plain (Ask x (Stop a b))) st 1 14 c _ at is (λ q m pc me e code.
      two_then v w 1 x a b (Stop v w) st q m pc me e ok.numbers.1.1.0 (omega arith) va wb (λ p f f0 f1. asked_stop g.space p v w f f0 f1 may) refl code))))

  put_lock : (a b : ℕ) → Asked (PutConsole a b)
  put_lock a b x st c at ok is =
      word_of a (λ v. on_word st.env b (λ w. Some (PutConsole v w))) st _ c 14 (omega arith) (λ v va.
      word_of b (λ w. Some (PutConsole v w)) st _ c 14 (omega arith) (λ w wb.
      accepted_at (lends gs st.cells v w) (PutConsole v w) st _ c 14 (omega arith) (λ may.
      begins g gs l y laid k i r here callers (Plain (Ask x (PutConsole a b))) st 1 14 c _ at is (λ q m pc me e code.
      let len = lent g gs l y laid h st.rooms st.deeper st.frame st.taken st.env st.cells callers m me v w may in
      two_then v w 2 x a b (PutConsole v w) st q m pc me e ok.numbers.1.1.0 (omega arith) va wb (λ p f f0 f1. asked_put g.space p v w f f0 f1 len.may)
      (ap (λ bs. Replies 0 (traced st.world (map Put bs))) (sym len.bytes)) code))))

  open_lock : (a b d : ℕ) → Asked (Open a b d)
  open_lock a b d x st c at ok is =
      word_of a (λ v. on_word st.env b (λ w. on_word st.env d (λ u. Some (Open v w u)))) st _ c 14 (omega arith) (λ v va.
      word_of b (λ w. on_word st.env d (λ u. Some (Open v w u))) st _ c 14 (omega arith) (λ w wb.
      word_of d (λ u. Some (Open v w u)) st _ c 14 (omega arith) (λ u ud.
      accepted_at (lends gs st.cells v w && leb u 1) (Open v w u) st _ c 14 (omega arith) (λ may.
      begins g gs l y laid k i r here callers (Plain (Ask x (Open a b d))) st 1 14 c _ at is (λ q m pc me e code.
      let o = both (lends gs st.cells v w) (leb u 1) may in
      let len = lent g gs l y laid h st.rooms st.deeper st.frame st.taken st.env st.cells callers m me v w o.0 in
      three_then v w u 4 x a b d (Open v w u) st q m pc me e ok.numbers.1.1.1.0 (omega arith) va wb ud (λ p f f0 f1 f2. asked_open g.space p v w u f f0 f1 f2 len.may o.1)
      (ap (λ n. served n m (Open v w u) st.world) laid.folder ∙ ap (λ bs. opens gs.folder (record st.world { opened = true }) bs u) (sym len.bytes)) code)))))

  put_stream_lock : (a b d : ℕ) → Asked (PutStream a b d)
  put_stream_lock a b d x st c at ok is =
      word_of a (λ v. on_word st.env b (λ w. on_word st.env d (λ u. Some (PutStream v w u)))) st _ c 14 (omega arith) (λ v va.
      word_of b (λ w. on_word st.env d (λ u. Some (PutStream v w u))) st _ c 14 (omega arith) (λ w wb.
      word_of d (λ u. Some (PutStream v w u)) st _ c 14 (omega arith) (λ u ud.
      accepted_at (lends gs st.cells w u) (PutStream v w u) st _ c 14 (omega arith) (λ may.
      begins g gs l y laid k i r here callers (Plain (Ask x (PutStream a b d))) st 1 14 c _ at is (λ q m pc me e code.
      let len = lent g gs l y laid h st.rooms st.deeper st.frame st.taken st.env st.cells callers m me w u may in
      three_then v w u 6 x a b d (PutStream v w u) st q m pc me e ok.numbers.1.1.1.0 (omega arith) va wb ud (λ p f f0 f1 f2. asked_put_stream g.space p v w u f f0 f1 f2 len.may)
      (ap (λ bs. puts st.world v bs (stream st.world v)) (sym len.bytes)) code)))))

  pub ask_lock : (s : Service) → Asked s
  ask_lock End = end_lock
  ask_lock (Stop a b) = stop_lock a b
  ask_lock (PutConsole a b) = put_lock a b
  ask_lock GetConsole = get_lock
  ask_lock (Open a b d) = open_lock a b d
  ask_lock (Close a) = close_lock a
  ask_lock (PutStream a b d) = put_stream_lock a b d
  ask_lock (GetStream a) = get_stream_lock a
  ask_lock (StateOf a) = state_lock a
