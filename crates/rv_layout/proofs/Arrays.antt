-- The operations that take the words of a run-time array and hand them back run in lock step.
use Rattle.std.proofs.Common.{◌≡◌, ℕ, ◌+◌, ◌-◌, ◌*◌, ◌/◌, ◌%◌, ◌^◌, ◌<◌, ◌≤◌, Bool, true, false, eqb, leb, ltb, List, [], ◌∷◌, ◌++◌, Option, Some, None, refl, arith, ap, sym, ◌∙◌, subst}
use Rattle.std.specs.Prelude.{slice_get, not, if◌then◌else◌, ◌&&◌}
use Rattle.std.proofs.lemmas.Bool.{eqb-true, leb-true, leb-false, le-ltb, lt-ltb}
use Rattle.std.proofs.lemmas.Option.{slice_get_within}
use Rattle.rv_isa.specs.declared.instr.Instr.{Instr}
use Rattle.rv_isa.specs.declared.instr.Instr.TheVariants.{Jalr, Branch, Shift, Register}
use Rattle.rv_isa.specs.declared.instr.RegisterOp.TheVariants.{Add, Sub}
use Rattle.rv_isa.specs.declared.instr.ShiftOp.TheVariants.{Slli, Srli}
use Rattle.rv_isa.specs.declared.instr.ImmediateOp.TheVariants.{Addi}
use Rattle.rv_isa.specs.declared.instr.Relation.TheVariants.{GreaterOrEqualUnsigned}
use Rattle.rv_isa.specs.Memory.{Memory}
use Rattle.rv_isa.specs.Encoding.{encoding}
use Rattle.rv_isa.specs.Step.{Registers, Space, text_end, with_any}
use Rattle.rv_image.specs.Streams.{World}
use Rattle.ir_form.specs.declared.plain.Plain.{Plain as PlainOp}
use Rattle.ir_form.specs.declared.plain.Plain.TheVariants.{Take, Give}
use Rattle.ir_form.specs.Place.{Setting, end_at}
use Rattle.ir_form.specs.Cells.{Closed, with_range}
use Rattle.ir_form.specs.Cost.{plain_price}
use Rattle.ir_form.specs.Plain.{storage, defines, stack_top, with_array, does}
use Rattle.ir_form.specs.State.{State, raised}
use Rattle.ir_form.specs.Units.{Head}
use Rattle.rv_flat.specs.declared.linear.Instruction.TheVariants.{Plain}
use Rattle.rv_flat.specs.declared.linear.LinearRoutine.{LinearRoutine}
use Rattle.rv_flat.specs.declared.linear.Linear.{Linear}
use Rattle.rv_flat.specs.Units.{head_of}
use Rattle.rv_frames.specs.Frames.{Caller, Running, goes_on_run, no_calls}
use Rattle.rv_runs.specs.Moments.{Ground, Moment, Live, Comes}
use Rattle.rv_runs.specs.Stands.{StandsAt, Stands}
use Rattle.rv_runs.proofs.Comes.{widen}
use Rattle.rv_runs.proofs.Places.{stands_left}
use Rattle.rv_runs.proofs.Steps.{cpu, immediate, shift, combine, branch, jump}
use Rattle.rv_layout.specs.Pieces.{upper, copy, call_to, raising}
use Rattle.rv_layout.specs.Rooms.{head_at, store_value}
use Rattle.rv_layout.specs.Calling.{refusal_bytes}
use Rattle.rv_layout.specs.Held.{Code, Layout, Laid, IsEven, lowest, Holds, Fast, LiveAt, Same}
use Rattle.rv_layout.proofs.Slots.{behind, after, call_then}
use Rattle.rv_layout.proofs.Stores.{below_top}
use Rattle.rv_layout.proofs.Access.{both, end_small}
use Rattle.rv_layout.proofs.Begins.{Sane, needed, value_then, begins, goes_on, defined}
use Rattle.rv_layout.proofs.Flow.{raise_then, stops}
use Rattle.rv_layout.proofs.Ranges.{code_even}
use Rattle.rv_layout.proofs.Passing.{refused_then}
use Rattle.rv_layout.proofs.Taken.{held_taken, held_given}

aligned_by : {X : Type 0} → (b : Bool) (x : Option X) (v : X) → (if b then x else None) ≡ Some v → (b ≡ true) × (x ≡ Some v)
aligned_by true x v h = (refl, h)
aligned_by false x v h = absurd (cc)

-- an instruction stands within the text
stands_within : (s : Space) (at : ℕ) (op : Instr) → StandsAt s at op → at < text_end s
stands_within s at op h =
    let e = aligned_by (leb 65536 at && eqb (at % 4) 0) (slice_get s.text ((at - 65536) / 4)) (encoding op) h.word in
    let b = both (leb 65536 at) (eqb (at % 4) 0) e.0 in
    let low = leb-true 65536 at b.0 in
    let even = eqb-true (at % 4) 0 b.1 in
    let index = slice_get_within s.text ((at - 65536) / 4) (encoding op) e.1 in
    omega arith

-- the shared piece
module _ (g : Ground) (gs : Setting) (l : Linear) (y : Layout) (laid : Laid g gs l y) where
  abbrev shared : ℕ
  shared = y.addresses.shared

  -- whether the words are there
  words_left : (t : Bool) (rooms w : ℕ) → rooms ≤ 8388608 → leb (rooms + w) 8388608 ≡ t → not (ltb (8388608 - rooms) w) ≡ t
  words_left true rooms w few e = let le = leb-true (rooms + w) 8388608 e in rw (le-ltb (8388608 - rooms) w (omega arith)) refl
  words_left false rooms w few e = let gt = leb-false (rooms + w) 8388608 e in rw (lt-ltb (8388608 - rooms) w (omega arith)) refl

  asked_then : (a b : ℕ) (t : Bool) (rooms deeper frame w : ℕ) (q : Registers) (m : Memory) (v : World) (P : Moment → Type 0) → rooms ≤ 8388608 → deeper ≡ 0 → leb (rooms + w) 8388608 ≡ t → Fast gs q (lowest gs rooms deeper) frame → q 5 ≡ w → IsEven (q 8) →
      ((z : Registers) → z 5 ≡ w → z 8 ≡ q 8 → Fast gs z (lowest gs rooms deeper) frame → Comes g a b (Live (cpu z m (if t then shared + 16 else q 8)) v) P) → Comes g (a + 3) (b + 4) (Live (cpu q m shared) v) P
  unfolding with_any
  asked_then a b t rooms deeper frame w q m v P few none e fast e5 even8 f =
      let high = laid.globals_high in
      let more = laid.globals_few in
      let text = laid.text in
      let s = laid.shares in
      let even = laid.even_shared.even in
      let within = stands_within g.space (shared + 4 + 4 + 4 + 4) (Shift Slli 5 5 2) s.1.1.1.1.0 in
      let there : IsEven (shared + 16) = record { even = omega arith; small = omega arith } in
      let difference : (lowest gs rooms deeper + (4294967296 - (end_at gs - 33554432))) % 4294967296 ≡ 4 * (8388608 - rooms) = omega arith in
      let quarter : 4 * (8388608 - rooms) / 2 ^ 2 ≡ 8388608 - rooms = omega arith in
      let e1 = fast.1 in
      let e3 = fast.3 in
      let d : (q 1 + (4294967296 - q 3)) % 4294967296 ≡ 4 * (8388608 - rooms) = rw (e1, e3) difference in
      let q1 : Registers = with_any q 6 (4 * (8388608 - rooms)) in
      let q2 : Registers = with_any q1 6 (8388608 - rooms) in
      widen g (a + 1 + 1 + 1) (b + 2 + 1 + 1) (a + 3) (b + 4) _ P
      (combine g (a + 1 + 1) (b + 2 + 1) q m shared v P Sub 6 1 3 (4 * (8388608 - rooms)) s.0 refl d
      (shift g (a + 1) (b + 2) q1 m (shared + 4) v P Srli 6 6 2 (8388608 - rooms) s.1.0 refl quarter
      (refused_then g a b 6 5 (8388608 - rooms) w t q2 m (shared + 4 + 4) (shared + 16) v P refl e5 (words_left t rooms w few e) even8 there (s.1.1.0, (s.1.1.1.0, tt)) (omega arith) (f q2 e5 refl fast))))
      (omega arith) (omega arith)

  -- the words are taken, and control goes back behind the words that raise Storage
  taken_then : (a b : ℕ) (rooms deeper frame w : ℕ) (q : Registers) (m : Memory) (v : World) (P : Moment → Type 0) → rooms + w ≤ 8388608 → deeper ≡ 0 → Fast gs q (lowest gs rooms deeper) frame → q 5 ≡ w → IsEven (q 8) → q 8 + 20 < 4294967296 →
      ((z : Registers) → Fast gs z (lowest gs (rooms + w) deeper) frame → Comes g a b (Live (cpu z m (q 8 + 20)) v) P) → Comes g (a + 3) (b + 3) (Live (cpu q m (shared + 16)) v) P
  unfolding with_any
  taken_then a b rooms deeper frame w q m v P few none fast e5 even8 small8 f =
      let high = laid.globals_high in
      let more = laid.globals_few in
      let sixteen : shared + 4 + 4 + 4 + 4 ≡ shared + 16 = omega arith in
      let s = subst (λ p. Stands g.space p (Shift Slli 5 5 2 ∷ Register Sub 1 1 5 ∷ Jalr 0 8 refusal_bytes ∷ [])) sixteen laid.shares.1.1.1.1 in
      let even = even8.even in
      let times : w * 2 ^ 2 % 2 ^ 32 ≡ 4 * w = omega arith in
      let difference : (lowest gs rooms deeper + (4294967296 - 4 * w)) % 4294967296 ≡ lowest gs (rooms + w) deeper = omega arith in
      let to : (q 8 + refusal_bytes) % 4294967296 / 2 * 2 ≡ q 8 + 20 = omega arith in
      let q1 : Registers = with_any q 5 (4 * w) in
      let q2 : Registers = with_any q1 1 (lowest gs (rooms + w) deeper) in
      widen g (a + 1 + 1 + 1) (b + 1 + 1 + 1) (a + 3) (b + 3) _ P
      (shift g (a + 1 + 1) (b + 1 + 1) q m (shared + 16) v P Slli 5 5 2 (4 * w) s.0 refl (ap (λ n. n * 2 ^ 2 % 2 ^ 32) e5 ∙ times)
      (combine g (a + 1) (b + 1) q1 m (shared + 16 + 4) v P Sub 1 1 5 (lowest gs (rooms + w) deeper) s.1.0 refl (ap (λ n. (n + (4294967296 - 4 * w)) % 4294967296) fast.1 ∙ difference)
      (jump g a b q2 m (shared + 16 + 4 + 4) v P 8 refusal_bytes (q 8 + 20) s.1.1.0 to
      (f q2 (fast.0, refl, fast.2, fast.3, fast.4)))))
      (omega arith) (omega arith)

module _ (g : Ground) (gs : Setting) (l : Linear) (y : Layout) (laid : Laid g gs l y) (k i : ℕ) (r : LinearRoutine) (here : slice_get l.routines k ≡ Some r) (callers : List Caller) where
  abbrev h : Head
  h = head_of r

  abbrev to : ℕ
  to = y.place k (i + 1)

  -- what an operation is done by
  abbrev Locked : PlainOp → Type 0
  Locked p = (st : State) (c : Moment) → slice_get r.code i ≡ Some (Plain p) → Sane l r (Plain p) → LiveAt g gs l y k i (head_at l.routines k) st callers c →
      Comes g 1 (plain_price p) c (Same g gs l y (goes_on_run k (i + 1) callers (does gs no_calls p st 0)))

  -- how many words, and on to the shared piece
  to_shared : (a b x words line w : ℕ) (st : State) (c : Moment) (t : Bool) (P : Moment → Type 0) → leb (st.rooms + w) 8388608 ≡ t → st.env words ≡ Some w → slice_get r.code i ≡ Some (Plain (Take x words line)) → Sane l r (Plain (Take x words line)) →
      LiveAt g gs l y k i (head_at l.routines k) st callers c → ((z : Registers) (m : Memory) (n : ℕ) → Holds g gs l y h st callers m → Fast gs z (lowest gs st.rooms st.deeper) st.frame → z 5 ≡ w → z 8 ≡ n → IsEven n → Code g.space n (raising storage line ++ store_value h 1 x) to →
      Comes g a b (Live (cpu z m (if t then y.addresses.shared + 16 else n)) st.world) P) → Comes g (a + 6) (b + 9) c P
  unfolding with_any
  to_shared a b x words line w st c t P e ew at ok is f =
      begins g gs l y laid k i r here callers (Plain (Take x words line)) st (a + 6) (b + 9) c P at is (λ q m pc me fast code.
      let none = me.active.none_deeper ok.there.0 in
      let even = laid.even_shared in
      let rest : List Instr = raising storage line ++ store_value h 1 x in
      widen g (a + 3 + 2 + 1) (b + 4 + 2 + 3) (a + 6) (b + 9) _ P
      (value_then g gs l y laid k i r here callers (a + 3 + 2) (b + 4 + 2) st q m pc to 5 words w (call_to y.addresses.shared ++ rest) P me fast.2 ew refl code (λ z n code1.
      let q1 : Registers = with_any (with_any q 7 z) 5 w in
      let q2 : Registers = with_any (with_any q1 7 (upper y.addresses.shared)) 8 (n + 8) in
      let code2 = behind g.space n to (call_to y.addresses.shared) rest code1 in
      let even8 = code_even g.space (n + 8) to rest code2 (laid.even_place k (i + 1)) in
      call_then g (a + 3) (b + 4) q1 m n st.world P y.addresses.shared (stands_left g.space n (call_to y.addresses.shared) rest code1.stand) even.even even.small
      (asked_then g gs l y laid a b t st.rooms st.deeper st.frame w q2 m st.world P me.active.few_rooms none e fast refl even8 (λ u e5 e8 fast2.
      f u m (n + 8) me fast2 e5 e8 even8 code2))))
      (omega arith) (omega arith))

  take_by : (t : Bool) (x words line w : ℕ) (st : State) (c : Moment) → leb (st.rooms + w) 8388608 ≡ t → st.env words ≡ Some w → slice_get r.code i ≡ Some (Plain (Take x words line)) → Sane l r (Plain (Take x words line)) →
      LiveAt g gs l y k i (head_at l.routines k) st callers c → Comes g 1 40 c (Same g gs l y (goes_on_run k (i + 1) callers (if t then defines x (stack_top gs (with_array gs w st)) (with_array gs w st) 0 else raised storage line st 0)))
  take_by true x words line w st c e ew at ok is =
      let few = leb-true (st.rooms + w) 8388608 e in
      widen g (1 + 3 + 6) (3 + 3 + 9) 1 40 _ _
      (to_shared (1 + 3) (3 + 3) x words line w st c true _ e ew at ok is (λ z m n me fast e5 e8 even code.
      let none = me.active.none_deeper ok.there.0 in
      let me2 = held_taken g gs l y h st.rooms st.deeper st.frame st.taken st.env st.cells callers m me w few in
      let code2 = behind g.space n to (raising storage line) (store_value h 1 x) code in
      let small = (code_even g.space (n + 20) to (store_value h 1 x) code2 (laid.even_place k (i + 1))).small in
      taken_then g gs l y laid 1 3 st.rooms st.deeper st.frame w z m st.world _ few none fast e5 (subst IsEven (sym e8) even) (subst (λ p. p + 20 < 4294967296) (sym e8) small) (λ u fast2.
      defined g gs l y laid k i r here callers (with_array gs w st) u m (z 8 + 20) 1 x (stack_top gs (with_array gs w st)) me2 fast2 fast2.1 refl ok.numbers.1.0
      (subst (λ p. Code g.space (p + 20) (store_value h 1 x) to) (sym e8) code2))))
      (omega arith) (omega arith)
  take_by false x words line w st c e ew at ok is =
      widen g (5 + 6) (5 + 9) 1 40 _ _
      (to_shared 5 5 x words line w st c false _ e ew at ok is (λ z m n me fast e5 e8 even code.
      stops g gs l y h k storage line st m callers 5 5 _ me
      (raise_then g storage line z m n (n + 20) st.world (omega arith) (omega arith) ok.small fast.0 (record { stand = stands_left g.space n (raising storage line) (store_value h 1 x) code.stand; end = refl }))))
      (omega arith) (omega arith)

  pub take_lock : (x words line : ℕ) → Locked (Take x words line)
  take_lock x words line st c at ok is =
      needed g gs l y laid k i r here callers (i + 1) (st.env words) st 0 _ c 1 40 (omega arith) (λ w ew. take_by (leb (st.rooms + w) 8388608) x words line w st c refl ew at ok is)

  -- the state when so many words are handed back
  abbrev less : State → ℕ → State
  less st j = record st { rooms = st.rooms - j; taken = st.taken - j; cells = with_range st.cells (stack_top gs st) j Closed }

  given_then : (st : State) (j : ℕ) (q : Registers) (m : Memory) (pc : ℕ) → Holds g gs l y h st callers m → j ≤ st.taken → j ≤ st.rooms → Fast gs q (lowest gs st.rooms st.deeper) st.frame → q 5 ≡ j → Code g.space pc (Shift Slli 5 5 2 ∷ Register Add 1 1 5 ∷ []) to →
      Comes g 2 2 (Live (cpu q m pc) st.world) (Same g gs l y (Running k (i + 1) (less st j) callers))
  unfolding with_any
  given_then st j q m pc me few_taken few fast e5 code =
      let high = laid.globals_high in
      let more = laid.globals_few in
      let most = me.active.few_rooms in
      let deep = me.active.few_deeper in
      let times : j * 2 ^ 2 % 2 ^ 32 ≡ 4 * j = omega arith in
      let sum : (lowest gs st.rooms st.deeper + 4 * j) % 4294967296 ≡ lowest gs (st.rooms - j) st.deeper = omega arith in
      let q1 : Registers = with_any q 5 (4 * j) in
      let q2 : Registers = with_any q1 1 (lowest gs (st.rooms - j) st.deeper) in
      shift g 1 1 q m pc st.world _ Slli 5 5 2 (4 * j) code.stand.0 refl (ap (λ n. n * 2 ^ 2 % 2 ^ 32) e5 ∙ times)
      (combine g 0 0 q1 m (pc + 4) st.world _ Add 1 1 5 (lowest gs (st.rooms - j) st.deeper) code.stand.1.0 refl (ap (λ n. (n + 4 * j) % 4294967296) fast.1 ∙ sum)
      (goes_on g gs l y laid k i r here callers (less st j) q2 m (pc + 4 + 4) (i + 1) (held_given g gs l y h st.rooms st.deeper st.frame st.taken st.env st.cells callers m me j few_taken few) (fast.0, refl, fast.2, fast.3, fast.4) (let end = code.end in omega arith)))

  -- not more than were taken
  fewer_then : (t : Bool) (st : State) (w : ℕ) (q : Registers) (m : Memory) (pc : ℕ) → leb w st.taken ≡ t → Holds g gs l y h st callers m → st.taken ≤ st.rooms → Fast gs q (lowest gs st.rooms st.deeper) st.frame → q 5 ≡ w → q 6 ≡ st.taken →
      Code g.space pc (Branch GreaterOrEqualUnsigned 6 5 8 ∷ copy 5 6 ∷ Shift Slli 5 5 2 ∷ Register Add 1 1 5 ∷ []) to → Comes g 3 4 (Live (cpu q m pc) st.world) (Same g gs l y (Running k (i + 1) (less st (if t then w else st.taken)) callers))
  unfolding with_any
  fewer_then true st w q m pc e me few fast e5 e6 code =
      let le = leb-true w st.taken e in
      let test : not (ltb st.taken w) ≡ true = rw (le-ltb st.taken w le) refl in
      let code1 = after g.space pc to (Branch GreaterOrEqualUnsigned 6 5 8) (copy 5 6 ∷ Shift Slli 5 5 2 ∷ Register Add 1 1 5 ∷ []) code in
      let code2 = after g.space (pc + 4) to (copy 5 6) (Shift Slli 5 5 2 ∷ Register Add 1 1 5 ∷ []) code1 in
      let small = (code_even g.space (pc + 4 + 4) to (Shift Slli 5 5 2 ∷ Register Add 1 1 5 ∷ []) code2 (laid.even_place k (i + 1))).small in
      let at : (pc + 8) % 4294967296 ≡ pc + 4 + 4 = omega arith in
      let P = Same g gs l y (Running k (i + 1) (less st w) callers) in
      widen g (2 + 1) (2 + 1) 3 4 _ _
      (branch g 2 2 q m pc st.world P GreaterOrEqualUnsigned 6 5 8 true code.stand.0 (let d : not (ltb (q 6) (q 5)) ≡ true = rw (e6, e5) test in d)
      (subst (λ p. Comes g 2 2 (Live (cpu q m p) st.world) P) (sym at) (given_then st w q m (pc + 4 + 4) me le (omega arith) fast e5 code2)))
      (omega arith) (omega arith)
  fewer_then false st w q m pc e me few fast e5 e6 code =
      let gt = leb-false w st.taken e in
      let most = me.active.few_rooms in
      let test : not (ltb st.taken w) ≡ false = rw (lt-ltb st.taken w (omega arith)) refl in
      let same : (st.taken + 0) % 4294967296 ≡ st.taken = omega arith in
      let code1 = after g.space pc to (Branch GreaterOrEqualUnsigned 6 5 8) (copy 5 6 ∷ Shift Slli 5 5 2 ∷ Register Add 1 1 5 ∷ []) code in
      let code2 = after g.space (pc + 4) to (copy 5 6) (Shift Slli 5 5 2 ∷ Register Add 1 1 5 ∷ []) code1 in
      let P = Same g gs l y (Running k (i + 1) (less st st.taken) callers) in
      widen g (2 + 1 + 1) (2 + 1 + 1) 3 4 _ _
      (branch g (2 + 1) (2 + 1) q m pc st.world P GreaterOrEqualUnsigned 6 5 8 false code.stand.0 (let d : not (ltb (q 6) (q 5)) ≡ false = rw (e6, e5) test in d)
      (immediate g 2 2 q m (pc + 4) st.world P Addi 5 6 0 st.taken code1.stand.0 refl (ap (λ n. (n + 0) % 4294967296) e6 ∙ same)
      (given_then st st.taken (with_any q 5 st.taken) m (pc + 4 + 4) me (omega arith) few fast refl code2)))
      (omega arith) (omega arith)

  pub give_lock : (words : ℕ) → Locked (Give words)
  unfolding with_any
  give_lock words st c at ok is =
      needed g gs l y laid k i r here callers (i + 1) (st.env words) st 0 _ c 1 20 (omega arith) (λ w ew.
      begins g gs l y laid k i r here callers (Plain (Give words)) st 1 20 c _ at is (λ q m pc me fast code.
      let none = me.active.none_deeper ok.there.0 in
      let top = me.active.top in
      let most = me.active.few_rooms in
      let below = below_top g gs l y m h st.frame callers me.below in
      let small = end_small g gs l y laid h st.rooms st.deeper st.frame st.taken st.env st.cells callers m me in
      let few : st.taken ≤ st.rooms = omega arith in
      let difference : (st.frame + (4294967296 - lowest gs st.rooms st.deeper)) % 4294967296 ≡ 4 * st.taken = omega arith in
      let quarter : 4 * st.taken / 2 ^ 2 ≡ st.taken = omega arith in
      let e1 = fast.1 in
      let e2 = fast.2 in
      let d : (q 2 + (4294967296 - q 1)) % 4294967296 ≡ 4 * st.taken = rw (e1, e2) difference in
      let tail : List Instr = Branch GreaterOrEqualUnsigned 6 5 8 ∷ copy 5 6 ∷ Shift Slli 5 5 2 ∷ Register Add 1 1 5 ∷ [] in
      widen g (3 + 1 + 1 + 1) (4 + 1 + 1 + 3) 1 20 _ _
      (value_then g gs l y laid k i r here callers (3 + 1 + 1) (4 + 1 + 1) st q m pc to 5 words w (Register Sub 6 2 1 ∷ Shift Srli 6 6 2 ∷ tail) _ me fast.2 ew refl code (λ z n code1.
      let q1 : Registers = with_any (with_any q 7 z) 5 w in
      let q2 : Registers = with_any q1 6 (4 * st.taken) in
      let code2 = after g.space n to (Register Sub 6 2 1) (Shift Srli 6 6 2 ∷ tail) code1 in
      let code3 = after g.space (n + 4) to (Shift Srli 6 6 2) tail code2 in
      combine g (3 + 1) (4 + 1) q1 m n st.world _ Sub 6 2 1 (4 * st.taken) code1.stand.0 refl d
      (shift g 3 4 q2 m (n + 4) st.world _ Srli 6 6 2 st.taken code2.stand.0 refl quarter
      (fewer_then (leb w st.taken) st w (with_any q2 6 st.taken) m (n + 4 + 4) refl me few fast refl refl code3))))
      (omega arith) (omega arith)))
