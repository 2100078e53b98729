-- A call runs in lock step: the room is taken or Storage is raised, and the callee begins.
use Rattle.std.proofs.Common.{◌≡◌, ℕ, zero, suc, ◌+◌, ◌*◌, ◌<◌, Bool, true, false, leb, List, ◌∷◌, ◌++◌, length, Option, Some, None, refl, arith, ap, sym, ◌∙◌, subst}
use Rattle.std.specs.Prelude.{slice_get, nat_eq, if◌then◌else◌}
use Rattle.std.specs.List.{AllByRecursion as Each}
use Rattle.std.proofs.lemmas.Bool.{leb-true, ne_eqb}
use Rattle.rv_isa.specs.declared.instr.Instr.{Instr}
use Rattle.rv_isa.specs.declared.instr.Instr.TheVariants.{Jalr}
use Rattle.rv_isa.specs.Memory.{Memory}
use Rattle.rv_isa.specs.Step.{Registers, with_any}
use Rattle.ir_form.specs.declared.plain.Plain.TheVariants.{Call}
use Rattle.ir_form.specs.Place.{Setting}
use Rattle.ir_form.specs.Lawful.{MayCall}
use Rattle.ir_form.specs.Plain.{storage}
use Rattle.ir_form.specs.State.{Env, State, Run, words_of, bound, on_run, binds, needs, next, raised}
use Rattle.ir_form.specs.Units.{Head, no_values, opened}
use Rattle.rv_flat.specs.declared.linear.Instruction.{Instruction}
use Rattle.rv_flat.specs.declared.linear.Instruction.TheVariants.{Plain}
use Rattle.rv_flat.specs.declared.linear.LinearRoutine.{LinearRoutine}
use Rattle.rv_flat.specs.declared.linear.Linear.{Linear}
use Rattle.rv_flat.specs.Units.{head_of}
use Rattle.rv_frames.specs.Frames.{Caller, operates, leaves, calls, arrives, begins_run, makes_room, tick_price}
use Rattle.rv_runs.specs.Moments.{Ground, Moment, Live, Comes}
use Rattle.rv_runs.proofs.Comes.{widen}
use Rattle.rv_runs.proofs.Places.{stands_left}
use Rattle.rv_runs.proofs.Steps.{cpu}
use Rattle.rv_layout.specs.Pieces.{is_near, constant, call_to, raising}
use Rattle.rv_layout.specs.Rooms.{head_in, head_at, room_bytes}
use Rattle.rv_layout.specs.Calling.{tests_room, takes_room, entering, entering_by, passing, receiving, calling}
use Rattle.rv_layout.specs.Ready.{InSlot}
use Rattle.rv_layout.specs.Held.{Code, Layout, Laid, IsEven, lowest, Active, Held, Fast, LiveAt, Same}
use Rattle.rv_layout.proofs.Slots.{behind, constant_then, call_then}
use Rattle.rv_layout.proofs.Begins.{Sane, wanted}
use Rattle.rv_layout.proofs.Flow.{raise_then, stops}
use Rattle.rv_layout.proofs.Ranges.{code_even}
use Rattle.rv_layout.proofs.Callable.{Callable, each_right, may_call, none_deep, active_zero, roof_zero, active_deep, roof_deep}
use Rattle.rv_layout.proofs.Passing.{tested_then, begun, entered_then}

module _ (g : Ground) (gs : Setting) (l : Linear) (y : Layout) (laid : Laid g gs l y) (k i : ℕ) (r : LinearRoutine) (here : slice_get l.routines k ≡ Some r) (callers : List Caller) (callee : ℕ) (arguments to : List ℕ) (line : ℕ) where
  abbrev h : Head
  h = head_at l.routines k

  abbrev new : Head
  new = head_at l.routines callee

  abbrev entry : ℕ
  entry = y.addresses.entry callee

  abbrev last : ℕ
  last = y.place k (i + 1)

  abbrev caller : State → Caller
  caller st = record { routine = k; place = i + 1; to = to; guard = None; state = st }

  abbrev behind_test : List Instr
  behind_test = passing h new new.parameters arguments ++ (Jalr 8 8 0 ∷ receiving h to)

  abbrev most : ℕ
  most = 14 + 6 * length arguments + 4 * length to

  -- what is known where the machine comes to the call
  pub record AtCall (st : State) (c : Moment) : Type 0 where
    pub at : LiveAt g gs l y k i h st callers c
    pub code : Code g.space (y.place k i) (calling entry h new arguments to line) last
    pub entry_code : Code g.space entry (entering new) (y.place callee 0)
    pub callable : Callable new
    pub may : MayCall h.depth new.depth
    pub lows : Each (InSlot h) to
    pub small : line < 4294967296

  -- on to the entry, with the way back in register 8
  to_entry : (a b : ℕ) (st : State) (c : Moment) (P : Moment → Type 0) → AtCall st c → ((q : Registers) (m : Memory) (pc : ℕ) → Held g gs l y h st.rooms st.deeper st.frame st.taken st.env st.cells callers m → Fast gs q (lowest gs st.rooms st.deeper) st.frame → q 8 ≡ pc → IsEven pc →
      Code g.space pc (raising storage line ++ behind_test) last → Comes g a b (Live (cpu q m entry) st.world) P) → Comes g (a + 2) (b + 2) c P
  unfolding with_any
  to_entry a b st c P is f =
      let q : Registers = is.at.cpu.registers in
      let m : Memory = is.at.cpu.memory in
      let pc : ℕ = is.at.cpu.pc in
      let code : Code g.space pc (calling entry h new arguments to line) last = subst (λ n. Code g.space n (calling entry h new arguments to line) last) (sym is.at.at) is.code in
      let code1 = behind g.space pc last (call_to entry) (raising storage line ++ behind_test) code in
      let even = laid.even_entry callee in
      subst (λ n. Comes g (a + 2) (b + 2) n P) (sym is.at.is)
      (call_then g a b q m pc st.world P entry (stands_left g.space pc (call_to entry) (raising storage line ++ behind_test) code.stand) even.even even.small
      (f _ m (pc + 8) is.at.holds is.at.fast refl (code_even g.space (pc + 8) last (raising storage line ++ behind_test) code1 (laid.even_place k (i + 1))) code1))

  -- the room is there, and the callee runs
  with_room : (st : State) (q : Registers) (m : Memory) (pc n rooms2 deeper2 : ℕ) (ws : List ℕ) (e : Env) (active : Active gs new rooms2 deeper2 (lowest gs rooms2 deeper2) 0) (roof : lowest gs rooms2 deeper2 + 4 * new.room ≡ lowest gs st.rooms st.deeper) →
      Held g gs l y h st.rooms st.deeper st.frame st.taken st.env st.cells callers m → Fast gs q (lowest gs st.rooms st.deeper) st.frame → q 6 ≡ room_bytes new → q 8 ≡ pc → IsEven pc → Code g.space n takes_room (y.place callee 0) →
      Code g.space pc (raising storage line ++ behind_test) last → Callable new → Each (InSlot h) to → words_of st.env arguments ≡ Some ws → bound new.parameters ws no_values ≡ Some e →
      Comes g 7 (7 + 6 * length arguments) (Live (cpu q m n) st.world) (LiveAt g gs l y callee 0 new (begun g gs l y laid (caller st) callers new rooms2 deeper2 active roof refl e) (caller st ∷ callers))
  with_room st q m pc n rooms2 deeper2 ws e active roof is fast e6 e8 even takes code callable lows av bv =
      let few = active.room in
      let size : room_bytes new ≡ 4 * new.room = omega arith in
      let code1 = behind g.space pc last (raising storage line) behind_test code in
      entered_then g gs l y laid (caller st) callers new rooms2 deeper2 active roof refl callee arguments ws e q m n is fast (e6 ∙ size) (subst IsEven (sym e8) even) takes
      (subst (λ p. Code g.space (p + 20) behind_test last) (sym e8) code1) callable.parameters lows av bv

  -- a routine of depth 0 whose room is there, and one whose room is not
  taken_zero : (st : State) (c : Moment) (ws : List ℕ) (e : Env) → AtCall st c → new.depth ≡ 0 → leb (st.rooms + new.room) 8388608 ≡ true → words_of st.env arguments ≡ Some ws → bound new.parameters ws no_values ≡ Some e →
      Comes g 1 most c (LiveAt g gs l y callee 0 new (record (opened gs new (record st { rooms = st.rooms + new.room })) { env = e }) (caller st ∷ callers))
  taken_zero st c ws e is zero_depth room av bv =
      let none = none_deep gs h new st.rooms st.deeper st.frame st.taken is.at.holds.active is.callable (subst (MayCall h.depth) zero_depth is.may) in
      let few = leb-true (st.rooms + new.room) 8388608 room in
      let active = active_zero gs h new st.rooms st.deeper st.frame st.taken is.at.holds.active is.callable zero_depth none few in
      let roof = roof_zero gs h new st.rooms st.deeper st.frame st.taken is.at.holds.active is.callable none few in
      let code : Code g.space entry (tests_room new ++ takes_room) (y.place callee 0) = subst (λ b. Code g.space entry (entering_by b new) (y.place callee 0)) (ap (λ n. nat_eq n 0) zero_depth) is.entry_code in
      let n : ℕ = entry + 4 * length (tests_room new) in
      let takes = behind g.space entry (y.place callee 0) (tests_room new) takes_room code in
      let tests : Code g.space entry (tests_room new) n = record { stand = stands_left g.space entry (tests_room new) takes_room code.stand; end = refl } in
      let even = code_even g.space n (y.place callee 0) takes_room takes (laid.even_place callee 0) in
      widen g (7 + 3 + 2) (7 + 6 * length arguments + 5 + 2) 1 most _ _
      (to_entry (7 + 3) (7 + 6 * length arguments + 5) st c _ is (λ q m pc me fast e8 even8 code2.
      tested_then g gs l y laid h new st.rooms st.deeper st.frame st.taken is.at.holds.active none 7 (7 + 6 * length arguments) true q m entry n st.world _ room fast (subst IsEven (sym e8) even8) even tests (λ z z6 z8 fast2.
      with_room st z m pc n (st.rooms + new.room) st.deeper ws e active roof me fast2 z6 (z8 ∙ e8) even8 takes code2 is.callable is.lows av bv)))
      (omega arith) (omega arith)

  refused_zero : (st : State) (c : Moment) → AtCall st c → new.depth ≡ 0 → leb (st.rooms + new.room) 8388608 ≡ false → Comes g 1 most c (Same g gs l y (leaves k storage line st callers))
  refused_zero st c is zero_depth room =
      let none = none_deep gs h new st.rooms st.deeper st.frame st.taken is.at.holds.active is.callable (subst (MayCall h.depth) zero_depth is.may) in
      let code : Code g.space entry (tests_room new ++ takes_room) (y.place callee 0) = subst (λ b. Code g.space entry (entering_by b new) (y.place callee 0)) (ap (λ n. nat_eq n 0) zero_depth) is.entry_code in
      let n : ℕ = entry + 4 * length (tests_room new) in
      let takes = behind g.space entry (y.place callee 0) (tests_room new) takes_room code in
      let tests : Code g.space entry (tests_room new) n = record { stand = stands_left g.space entry (tests_room new) takes_room code.stand; end = refl } in
      let even = code_even g.space n (y.place callee 0) takes_room takes (laid.even_place callee 0) in
      widen g (5 + 3 + 2) (5 + 5 + 2) 1 most _ _
      (to_entry (5 + 3) (5 + 5) st c _ is (λ q m pc me fast e8 even8 code2.
      tested_then g gs l y laid h new st.rooms st.deeper st.frame st.taken is.at.holds.active none 5 5 false q m entry n st.world _ room fast (subst IsEven (sym e8) even8) even tests (λ z z6 z8 fast2.
      subst (λ p. Comes g 5 5 (Live (cpu z m p) st.world) (Same g gs l y (leaves k storage line st callers))) (sym e8)
      (stops g gs l y h k storage line st m callers 5 5 _ me
      (raise_then g storage line z m pc (pc + 20) st.world (omega arith) (omega arith) is.small fast2.0 (record { stand = stands_left g.space pc (raising storage line) behind_test code2.stand; end = refl }))))))
      (omega arith) (omega arith)

  -- a deeper routine
  taken_deep : (d : ℕ) (st : State) (c : Moment) (ws : List ℕ) (e : Env) → AtCall st c → new.depth ≡ suc d → words_of st.env arguments ≡ Some ws → bound new.parameters ws no_values ≡ Some e →
      Comes g 1 most c (LiveAt g gs l y callee 0 new (record (opened gs new (record st { deeper = st.deeper + new.room })) { env = e }) (caller st ∷ callers))
  unfolding with_any
  taken_deep d st c ws e is depth av bv =
      let may = subst (MayCall h.depth) depth is.may in
      let active = active_deep gs h new st.rooms st.deeper st.frame st.taken is.at.holds.active is.callable d depth may in
      let roof = roof_deep gs h new st.rooms st.deeper st.frame st.taken is.at.holds.active is.callable d depth may in
      let size : List Instr = constant 6 (room_bytes new) in
      let code : Code g.space entry (size ++ takes_room) (y.place callee 0) = subst (λ b. Code g.space entry (entering_by b new) (y.place callee 0)) (not_zero d (ap (λ n. nat_eq n 0) depth)) is.entry_code in
      let takes = behind g.space entry (y.place callee 0) size takes_room code in
      widen g (7 + 1 + 2) (7 + 6 * length arguments + 2 + 2) 1 most _ _
      (to_entry (7 + 1) (7 + 6 * length arguments + 2) st c _ is (λ q m pc me fast e8 even8 code2.
      constant_then g 7 (7 + 6 * length arguments) q m entry st.world _ (is_near (room_bytes new)) 6 (room_bytes new) (stands_left g.space entry size takes_room code.stand) refl fast.0 (omega arith)
      (with_room st (with_any q 6 (room_bytes new)) m pc (entry + 4 * length size) st.rooms (st.deeper + new.room) ws e active roof me fast refl e8 even8 takes code2 is.callable is.lows av bv)))
      (omega arith) (omega arith)
    where
      not_zero : (d : ℕ) → nat_eq new.depth 0 ≡ nat_eq (suc d) 0 → nat_eq new.depth 0 ≡ false
      not_zero d e = e ∙ ne_eqb (suc d) 0 (λ q. absurd (let z : suc d ≡ 0 = q in omega arith))

  -- the callee's parameters must have their words
  needed_begins : {A : Type 0} (st : State) (o : Option A) (su : State) (q : ℕ) (go : A → Run) (c : Moment) → ((v : A) → o ≡ Some v → Comes g 1 most c (Same g gs l y (begins_run gs l callee (caller st) callers (go v)))) →
      Comes g 1 most c (Same g gs l y (begins_run gs l callee (caller st) callers (needs o su q go)))
  needed_begins st None su q go c f = record { count = 1; low = omega arith; high = omega arith; there = tt }
  needed_begins st (Some v) su q go c f = f v refl

  -- by the depth, and whether the room is there
  by_room : (t : Bool) (st : State) (c : Moment) (ws : List ℕ) → AtCall st c → new.depth ≡ 0 → leb (st.rooms + new.room) 8388608 ≡ t → words_of st.env arguments ≡ Some ws →
      Comes g 1 most c (Same g gs l y (begins_run gs l callee (caller st) callers (on_run (if t then next (opened gs new (record st { rooms = st.rooms + new.room })) 0 else raised storage line st 0) (binds new.parameters ws))))
  by_room true st c ws is depth room av =
      needed_begins st (bound new.parameters ws no_values) _ _ _ c (λ e bv. taken_zero st c ws e is depth room av bv)
  by_room false st c ws is depth room av = refused_zero st c is depth room

  by_depth : (d : ℕ) (st : State) (c : Moment) (ws : List ℕ) → AtCall st c → new.depth ≡ d → words_of st.env arguments ≡ Some ws →
      Comes g 1 most c (Same g gs l y (begins_run gs l callee (caller st) callers (on_run (makes_room d gs new line st 0) (binds new.parameters ws))))
  by_depth zero st c ws is depth av = by_room (leb (st.rooms + new.room) 8388608) st c ws is depth refl av
  by_depth (suc d) st c ws is depth av =
      needed_begins st (bound new.parameters ws no_values) _ _ _ c (λ e bv. taken_deep d st c ws e is depth av bv)

  -- the routine must be there
  by_routine : (o : Option LinearRoutine) (st : State) (c : Moment) → slice_get l.routines callee ≡ o → ((s : LinearRoutine) → slice_get l.routines callee ≡ Some s → AtCall st c) →
      Comes g 1 most c (Same g gs l y (calls gs l callee o (caller st) callers arguments line st))
  by_routine None st c e f = record { count = 1; low = omega arith; high = omega arith; there = tt }
  by_routine (Some s) st c e f =
      wanted g gs l y laid k i r here callers (words_of st.env arguments) st _ c 1 most (omega arith) (λ ws av.
      subst (λ n. Comes g 1 most c (Same g gs l y (begins_run gs l callee (caller st) callers (arrives gs n ws line st)))) (ap head_in e)
      (by_depth new.depth st c ws (f s e) refl av))

  -- what the layout and the routines give where the machine comes to the call
  at_call : (st : State) (c : Moment) → ((j : ℕ) (s : LinearRoutine) → slice_get l.routines j ≡ Some s → Callable (head_of s)) → slice_get r.code i ≡ Some (Plain (Call callee arguments to line)) → Sane l r (Plain (Call callee arguments to line)) → LiveAt g gs l y k i h st callers c →
      (s : LinearRoutine) → slice_get l.routines callee ≡ Some s → AtCall st c
  at_call st c callables at ok is s there =
      let mine = sym (ap head_in here) in
      let its = sym (ap head_in there) in
      let x : Instruction = Plain (Call callee arguments to line) in
      record {
        at = is;
        code = subst (λ n. Code g.space (y.place k i) (calling entry n new arguments to line) last) mine (record { stand = laid.stands k i r x here at; end = sym (laid.follows k i r x here at) });
        entry_code = subst (λ n. Code g.space entry (entering n) (y.place callee 0)) its (record { stand = laid.enters callee s there; end = sym (laid.begins callee s there) });
        callable = subst Callable its (callables callee s there);
        may = subst (λ n. MayCall n.depth new.depth) mine (subst (λ n. MayCall r.depth n.depth) its (may_call l r.depth callee s ok.there.0 there));
        lows = subst (λ n. Each (InSlot n) to) mine (each_right (InSlot (head_of r)) arguments to ok.numbers);
        small = ok.small;
      }

  -- a call, at its price
  pub call_lock : (st : State) (c : Moment) → ((j : ℕ) (s : LinearRoutine) → slice_get l.routines j ≡ Some s → Callable (head_of s)) → slice_get r.code i ≡ Some (Plain (Call callee arguments to line)) → Sane l r (Plain (Call callee arguments to line)) → LiveAt g gs l y k i (head_at l.routines k) st callers c →
      Comes g 1 (tick_price (Call callee arguments to line)) c (Same g gs l y (operates gs l k (i + 1) None callers (Call callee arguments to line) st))
  call_lock st c callables at ok is = widen g 1 most 1 (tick_price (Call callee arguments to line)) _ _ (by_routine (slice_get l.routines callee) st c refl (at_call st c callables at ok is)) (omega arith) (omega arith)
