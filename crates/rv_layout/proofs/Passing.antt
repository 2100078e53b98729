-- The words that take a room, put the arguments and enter a routine.
use Rattle.std.proofs.Common.{◌≡◌, ℕ, suc, ◌+◌, ◌-◌, ◌*◌, ◌/◌, ◌%◌, Bool, true, false, leb, ltb, List, [], ◌∷◌, ◌++◌, length, Some, None, refl, arith, ap, sym, ◌∙◌, subst}
use Rattle.std.specs.Prelude.{not, if◌then◌else◌}
use Rattle.std.specs.List.{AllByRecursion as Each}
use Rattle.std.proofs.lemmas.Bool.{leb-true, leb-false, le-ltb, lt-ltb}
use Rattle.rv_isa.specs.declared.instr.Instr.{Instr}
use Rattle.rv_isa.specs.declared.instr.Instr.TheVariants.{Jalr, Branch, Store, Register}
use Rattle.rv_isa.specs.declared.instr.StoreKind.TheVariants.{Word as whole_word}
use Rattle.rv_isa.specs.declared.instr.ImmediateOp.TheVariants.{Addi}
use Rattle.rv_isa.specs.declared.instr.RegisterOp.TheVariants.{Add, Sub}
use Rattle.rv_isa.specs.declared.instr.Relation.TheVariants.{GreaterOrEqualUnsigned}
use Rattle.rv_isa.specs.Memory.{Memory, with_word}
use Rattle.rv_isa.specs.Step.{Registers, with_any}
use Rattle.rv_image.specs.Streams.{World}
use Rattle.ir_form.specs.Place.{Setting, end_at}
use Rattle.ir_form.specs.State.{Env, State, words_of, bound, with_value}
use Rattle.ir_form.specs.Units.{Head, no_values, opened}
use Rattle.rv_flat.specs.declared.linear.Linear.{Linear}
use Rattle.rv_frames.specs.Frames.{Caller}
use Rattle.rv_runs.specs.Moments.{Ground, Moment, Live, Comes}
use Rattle.rv_runs.proofs.Comes.{done, widen}
use Rattle.rv_runs.proofs.Places.{stands_left}
use Rattle.rv_runs.proofs.Steps.{cpu, immediate, combine, store, branch, jump, link}
use Rattle.rv_runs.specs.Stands.{Stands}
use Rattle.rv_layout.specs.Pieces.{is_near, minus, copy, constant, store_word}
use Rattle.rv_layout.specs.Rooms.{slot, head_at, room_bytes, load_value}
use Rattle.rv_layout.specs.Calling.{refusal_bytes, tests_room, takes_room, passing, receiving}
use Rattle.rv_layout.specs.Ready.{InSlot}
use Rattle.rv_layout.specs.Held.{Code, Layout, Laid, IsEven, resume, lowest, Active, Held, Fast, LiveAt}
use Rattle.rv_layout.proofs.Slots.{behind, after, load_then, store_then, constant_then}
use Rattle.rv_layout.proofs.Access.{end_small, slot_word}
use Rattle.rv_layout.proofs.Ranges.{code_even, jumped}
use Rattle.rv_layout.proofs.Returns.{first_word}
use Rattle.rv_layout.proofs.Entered.{under_word, Arriving, base_low, base_even, arriving_first, arriving_argument, arriving_word, held_entered}

-- what is tested holds, or control goes back to register 8
pub refused_then : (g : Ground) (a b : ℕ) (rs rt x v : ℕ) (t : Bool) (z : Registers) (m : Memory) (at n : ℕ) (w : World) (P : Moment → Type 0) → z rs ≡ x → z rt ≡ v → not (ltb x v) ≡ t → IsEven (z 8) → IsEven n → Stands g.space at (Branch GreaterOrEqualUnsigned rs rt 8 ∷ Jalr 0 8 0 ∷ []) → at + 8 ≡ n →
    Comes g a b (Live (cpu z m (if t then n else z 8)) w) P → Comes g (a + 1) (b + 2) (Live (cpu z m at) w) P
refused_then g a b rs rt x v true z m at n w P ex ev e even8 even stands ends k =
    let small = even.small in
    let to : (at + 8) % 4294967296 ≡ n = omega arith in
    let test : not (ltb (z rs) (z rt)) ≡ true = rw (ex, ev) e in
    widen g (a + 1) (b + 1) (a + 1) (b + 2) _ P
    (branch g a b z m at w P GreaterOrEqualUnsigned rs rt 8 true stands.0 test (subst (λ p. Comes g a b (Live (cpu z m p) w) P) (sym to) k))
    (omega arith) (omega arith)
refused_then g a b rs rt x v false z m at n w P ex ev e even8 even stands ends k =
    let test : not (ltb (z rs) (z rt)) ≡ false = rw (ex, ev) e in
    widen g (a + 1 + 1) (b + 1 + 1) (a + 1) (b + 2) _ P
    (branch g (a + 1) (b + 1) z m at w P GreaterOrEqualUnsigned rs rt 8 false stands.0 test
    (jump g a b z m (at + 4) w P 8 0 (z 8) stands.1.0 (jumped (z 8) even8) k))
    (omega arith) (omega arith)

-- whether the room is there
module _ (g : Ground) (gs : Setting) (l : Linear) (y : Layout) (laid : Laid g gs l y) (h new : Head) (rooms deeper frame taken : ℕ) (active : Active gs h rooms deeper frame taken) (none : deeper ≡ 0) where
  room_left : (t : Bool) (x : ℕ) → leb (rooms + new.room) 8388608 ≡ t → x ≡ 4 * (8388608 - rooms) → not (ltb x (room_bytes new)) ≡ t
  room_left true x e q =
      let le = leb-true (rooms + new.room) 8388608 e in
      let few = active.few_rooms in
      rw (le-ltb x (room_bytes new) (omega arith)) refl
  room_left false x e q =
      let gt = leb-false (rooms + new.room) 8388608 e in
      let few = active.few_rooms in
      rw (lt-ltb x (room_bytes new) (omega arith)) refl

  pub tested_then : (a b : ℕ) (t : Bool) (q : Registers) (m : Memory) (pc n : ℕ) (w : World) (P : Moment → Type 0) → leb (rooms + new.room) 8388608 ≡ t → Fast gs q (lowest gs rooms deeper) frame → IsEven (q 8) → IsEven n → Code g.space pc (tests_room new) n →
      ((z : Registers) → z 6 ≡ room_bytes new → z 8 ≡ q 8 → Fast gs z (lowest gs rooms deeper) frame → Comes g a b (Live (cpu z m (if t then n else q 8)) w) P) → Comes g (a + 3) (b + 5) (Live (cpu q m pc) w) P
  unfolding with_any
  tested_then a b t q m pc n w P e fast even8 even code f =
      let few = active.few_rooms in
      let high = laid.globals_high in
      let more = laid.globals_few in
      let x : ℕ = 4 * (8388608 - rooms) in
      let difference : (lowest gs rooms deeper + (4294967296 - (end_at gs - 33554432))) % 4294967296 ≡ x = omega arith in
      let size : List Instr = constant 6 (room_bytes new) in
      let tail : List Instr = Branch GreaterOrEqualUnsigned 5 6 8 ∷ Jalr 0 8 0 ∷ [] in
      let code1 = after g.space pc n (Register Sub 5 1 3) (size ++ tail) code in
      let code2 = behind g.space (pc + 4) n size tail code1 in
      let at : ℕ = pc + 4 + 4 * length size in
      let q1 : Registers = with_any q 5 x in
      let q2 : Registers = with_any q1 6 (room_bytes new) in
      let e1 = fast.1 in
      let e3 = fast.3 in
      let d : (q 1 + (4294967296 - q 3)) % 4294967296 ≡ x = rw (e1, e3) difference in
      widen g (a + 1 + 1 + 1) (b + 2 + 2 + 1) (a + 3) (b + 5) _ P
      (combine g (a + 1 + 1) (b + 2 + 2) q m pc w P Sub 5 1 3 x code.stand.0 refl d
      (constant_then g (a + 1) (b + 2) q1 m (pc + 4) w P (is_near (room_bytes new)) 6 (room_bytes new) (stands_left g.space (pc + 4) size tail code1.stand) refl fast.0 (omega arith)
      (refused_then g a b 5 6 x (room_bytes new) t q2 m at n w P refl refl (room_left t x e refl) even8 even code2.stand code2.end (f q2 refl refl fast))))
      (omega arith) (omega arith)

module _ (g : Ground) (gs : Setting) (l : Linear) (y : Layout) (laid : Laid g gs l y) (f : Caller) (callers : List Caller) (new : Head) (rooms2 deeper2 : ℕ) (active : Active gs new rooms2 deeper2 (lowest gs rooms2 deeper2) 0) (roof : lowest gs rooms2 deeper2 + 4 * new.room ≡ lowest gs f.state.rooms f.state.deeper) (guard : f.guard ≡ None) where
  abbrev hf : Head
  hf = head_at l.routines f.routine

  abbrev base : ℕ
  base = lowest gs rooms2 deeper2

  abbrev low : ℕ
  low = lowest gs f.state.rooms f.state.deeper

  abbrev Arrives : Env → Memory → Type 0
  Arrives e m = Arriving g gs l y laid hf f.state.rooms f.state.deeper f.state.frame f.state.taken f.state.env f.state.cells callers new rooms2 deeper2 active roof e m

  abbrev Caller_held : Memory → Type 0
  Caller_held m = Held g gs l y hf f.state.rooms f.state.deeper f.state.frame f.state.taken f.state.env f.state.cells callers m

  none_taken : (e final : Env) (w : ℕ) (ws : List ℕ) → bound [] (w ∷ ws) e ≡ Some final → ⊥
  none_taken e final w ws b = cc

  -- the arguments, one after the other
  passing_then : (a b : ℕ) (ts xs ws : List ℕ) (e final : Env) (q : Registers) (m : Memory) (pc mid : ℕ) (w : World) (P : Moment → Type 0) → Arrives e m → Fast gs q base f.state.frame → Each (InSlot new) ts → words_of f.state.env xs ≡ Some ws → bound ts ws e ≡ Some final →
      Code g.space pc (passing hf new ts xs) mid → ((z : Registers) (n : Memory) → Arrives final n → Fast gs z base f.state.frame → z 6 ≡ q 6 → z 8 ≡ q 8 → Comes g a b (Live (cpu z n mid) w) P) → Comes g a (b + 6 * length xs) (Live (cpu q m pc) w) P
  unfolding with_any
  passing_then a b [] [] [] e final q m pc mid w P is fast lows av bv code k =
      let same : e ≡ final = cc in
      let end = code.end in
      let here : mid ≡ pc = omega arith in
      widen g a b a (b + 6 * 0) _ P
      (subst (λ p. Comes g a b (Live (cpu q m p) w) P) here (k q m (subst (λ u. Arrives u m) same is) fast refl refl))
      (omega arith) (omega arith)
  passing_then a b [] [] (v ∷ ws) e final q m pc mid w P is fast lows av bv code k = absurd (none_taken e final v ws bv)
  passing_then a b [] (x ∷ xs) ws e final q m pc mid w P is fast lows av bv code k =
      let d = first_word (f.state.env x) (words_of f.state.env xs) ws av in
      absurd (none_taken e final d.0 d.1 (subst (λ us. bound [] us e ≡ Some final) d.4 bv))
  passing_then a b (t ∷ ts) [] [] e final q m pc mid w P is fast lows av bv code k = absurd (cc)
  passing_then a b (t ∷ ts) [] (v ∷ ws) e final q m pc mid w P is fast lows av bv code k = absurd (cc)
  passing_then a b (t ∷ ts) (x ∷ xs) ws e final q m pc mid w P is fast lows av bv code k =
      let d = first_word (f.state.env x) (words_of f.state.env xs) ws av in
      let v : ℕ = d.0 in
      let rest : bound ts d.1 (with_value e t v) ≡ Some final = subst (λ us. bound (t ∷ ts) us e ≡ Some final) d.4 bv in
      let z = is.caller.slots.slots x v d.2 in
      let from = slot_word g gs l y laid hf f.state.rooms f.state.deeper f.state.frame f.state.taken f.state.env f.state.cells callers m is.caller x z.0 in
      let to = arriving_word g gs l y laid hf f.state.rooms f.state.deeper f.state.frame f.state.taken f.state.env f.state.cells callers new rooms2 deeper2 active roof e m t lows.0 is in
      let n : Memory = with_word m (base + slot new t) v in
      let is2 = arriving_argument g gs l y laid hf f.state.rooms f.state.deeper f.state.frame f.state.taken f.state.env f.state.cells callers new rooms2 deeper2 active roof e m t v lows.0 is in
      let get : List Instr = load_value hf 5 x in
      let put : List Instr = store_word 5 1 (slot new t) in
      let at : ℕ = pc + 4 * length get in
      let code1 = behind g.space pc mid get (put ++ passing hf new ts xs) code in
      let code2 = behind g.space at mid put (passing hf new ts xs) code1 in
      widen g (a + 1 + 1) (b + 6 * length xs + 3 + 3) a (b + 6 * suc (length xs)) _ P
      (load_then g (a + 1) (b + 6 * length xs + 3) q m pc w P (is_near (slot hf x)) 5 2 (slot hf x) (f.state.frame + slot hf x) (stands_left g.space pc get _ code.stand) refl refl (ap (λ p. p + slot hf x) fast.2) from.0 (λ u. rw z.1
      (store_then g a (b + 6 * length xs) (with_any (with_any q 7 u) 5 v) m at w P (is_near (slot new t)) 5 1 (slot new t) (base + slot new t) v (stands_left g.space at put _ code1.stand) refl refl (ap (λ p. p + slot new t) fast.1) refl to (λ u2.
      passing_then a b ts xs d.1 (with_value e t v) final (with_any (with_any (with_any q 7 u) 5 v) 7 u2) n (at + 4 * length put) mid w P is2 fast lows.1 d.3 rest code2 k))))
      (omega arith) (omega arith)

  -- the callee's state as it begins
  abbrev pub begun : Env → State
  begun e = record (opened gs new (record f.state { rooms = rooms2; deeper = deeper2 })) { env = e }

  -- the way back is kept, and the callee runs
  kept_then : (c : ℕ) (e : Env) (z : Registers) (m : Memory) (at : ℕ) → Arrives e m → Fast gs z base f.state.frame → z 6 ≡ 4 * new.room → z 8 ≡ resume l y f.routine f.place f.to → Code g.space at (copy 2 1 ∷ Register Add 6 1 6 ∷ Store whole_word 6 8 (minus 4) ∷ []) (y.place c 0) →
      Code g.space (resume l y f.routine f.place f.to) (receiving hf f.to) (y.place f.routine f.place) → Each (InSlot hf) f.to → Comes g 3 3 (Live (cpu z m at) f.state.world) (LiveAt g gs l y c 0 new (begun e) (f ∷ callers))
  unfolding with_any
  kept_then c e z m at is fast e6 e8 code takes lows =
      let words = active.words in
      let few = active.room in
      let stack = base_low g gs l y laid hf f.state.rooms f.state.deeper f.state.frame f.state.taken f.state.env f.state.cells callers new rooms2 deeper2 active roof in
      let even = base_even g gs l y laid hf f.state.rooms f.state.deeper f.state.frame f.state.taken f.state.env f.state.cells callers new rooms2 deeper2 active roof in
      let small = end_small g gs l y laid hf f.state.rooms f.state.deeper f.state.frame f.state.taken f.state.env f.state.cells callers m is.caller in
      let word = under_word g gs l y laid hf f.state.rooms f.state.deeper f.state.frame f.state.taken f.state.env f.state.cells callers m (low - 4) is.caller (omega arith) (omega arith) (omega arith) in
      let same : (base + 0) % 4294967296 ≡ base = omega arith in
      let sum : (base + 4 * new.room) % 4294967296 ≡ low = omega arith in
      let place : (low + minus 4) % 4294967296 ≡ low - 4 = omega arith in
      let e1 = fast.1 in
      let z2 : Registers = with_any z 2 base in
      let z6 : Registers = with_any z2 6 low in
      let n : Memory = with_word m (low - 4) (z 8) in
      let P : Moment → Type 0 = LiveAt g gs l y c 0 new (begun e) (f ∷ callers) in
      immediate g 2 2 z m at f.state.world P Addi 2 1 0 base code.stand.0 refl (ap (λ u. (u + 0) % 4294967296) e1 ∙ same)
      (combine g 1 1 z2 m (at + 4) f.state.world P Add 6 1 6 low code.stand.1.0 refl (let d : (z 1 + z 6) % 4294967296 ≡ low = rw (e1, e6) sum in d)
      (store g 0 0 z6 m (at + 4 + 4) f.state.world P whole_word 6 8 (minus 4) (low - 4) code.stand.1.1.0 place word
      (done g _ P (record {
        cpu = cpu z6 n (at + 4 + 4 + 4);
        is = refl;
        at = let end = code.end in omega arith;
        fast = (fast.0, fast.1, refl, fast.3, fast.4);
        holds = subst (λ u. Held g gs l y new rooms2 deeper2 base 0 e (begun e).cells (f ∷ callers) (with_word m (low - 4) u)) (sym e8) (held_entered g gs l y laid f callers new rooms2 deeper2 active roof guard e m takes lows is);
      }))))

  -- the room is taken, the arguments are put, and the callee runs
  pub entered_then : (c : ℕ) (xs ws : List ℕ) (e : Env) (q : Registers) (m : Memory) (n : ℕ) → Caller_held m → Fast gs q low f.state.frame → q 6 ≡ 4 * new.room → IsEven (q 8) → Code g.space n takes_room (y.place c 0) →
      Code g.space (q 8 + 20) (passing hf new new.parameters xs ++ (Jalr 8 8 0 ∷ receiving hf f.to)) (y.place f.routine f.place) → Each (InSlot new) new.parameters → Each (InSlot hf) f.to → words_of f.state.env xs ≡ Some ws → bound new.parameters ws no_values ≡ Some e →
      Comes g 7 (7 + 6 * length xs) (Live (cpu q m n) f.state.world) (LiveAt g gs l y c 0 new (begun e) (f ∷ callers))
  unfolding with_any
  entered_then c xs ws e q m n is fast e6 even8 code there slots lows av bv =
      let words = active.words in
      let few = active.room in
      let P : Moment → Type 0 = LiveAt g gs l y c 0 new (begun e) (f ∷ callers) in
      let stack = base_low g gs l y laid hf f.state.rooms f.state.deeper f.state.frame f.state.taken f.state.env f.state.cells callers new rooms2 deeper2 active roof in
      let base_at = base_even g gs l y laid hf f.state.rooms f.state.deeper f.state.frame f.state.taken f.state.env f.state.cells callers new rooms2 deeper2 active roof in
      let small = end_small g gs l y laid hf f.state.rooms f.state.deeper f.state.frame f.state.taken f.state.env f.state.cells callers m is in
      let word = under_word g gs l y laid hf f.state.rooms f.state.deeper f.state.frame f.state.taken f.state.env f.state.cells callers m (low - 8) is (omega arith) (omega arith) (omega arith) in
      let e1 = fast.1 in
      let e2 = fast.2 in
      let place : (low + minus 8) % 4294967296 ≡ low - 8 = omega arith in
      let difference : (low + (4294967296 - 4 * new.room)) % 4294967296 ≡ base = omega arith in
      let even = even8.even in
      let high8 = even8.small in
      let n1 : Memory = with_word m (low - 8) f.state.frame in
      let args : List Instr = passing hf new new.parameters xs in
      let back : ℕ = q 8 + 20 in
      let mid : ℕ = back + 4 * length args in
      let there1 = behind g.space back (y.place f.routine f.place) args (Jalr 8 8 0 ∷ receiving hf f.to) there in
      let there2 = after g.space mid (y.place f.routine f.place) (Jalr 8 8 0) (receiving hf f.to) there1 in
      let way_at : mid + 4 ≡ resume l y f.routine f.place f.to = let end = there2.end in omega arith in
      let takes : Code g.space (resume l y f.routine f.place f.to) (receiving hf f.to) (y.place f.routine f.place) = subst (λ p. Code g.space p (receiving hf f.to) (y.place f.routine f.place)) way_at there2 in
      let there_even = code_even g.space back (y.place f.routine f.place) (args ++ (Jalr 8 8 0 ∷ receiving hf f.to)) there (laid.even_place f.routine f.place) in
      let back_small = there_even.small in
      let to : (q 8 + refusal_bytes) % 4294967296 / 2 * 2 ≡ back = omega arith in
      let rest : Code g.space (n + 4 + 4 + 4) (copy 2 1 ∷ Register Add 6 1 6 ∷ Store whole_word 6 8 (minus 4) ∷ []) (y.place c 0) = record { stand = code.stand.1.1.1; end = let end = code.end in omega arith } in
      let even_rest = code_even g.space (n + 4 + 4 + 4) (y.place c 0) (copy 2 1 ∷ Register Add 6 1 6 ∷ Store whole_word 6 8 (minus 4) ∷ []) rest (laid.even_place c 0) in
      let q1 : Registers = with_any q 1 base in
      let q8 : Registers = with_any q1 8 (n + 4 + 4 + 4) in
      let difference1 : (q 1 + (4294967296 - q 6)) % 4294967296 ≡ base = rw (e1, e6) difference in
      widen g (3 + 1 + 1 + 1 + 1) (3 + 1 + 6 * length xs + 1 + 1 + 1) 7 (7 + 6 * length xs) _ P
      (store g (3 + 1 + 1 + 1) (3 + 1 + 6 * length xs + 1 + 1) q m n f.state.world P whole_word 1 2 (minus 8) (low - 8) code.stand.0 (ap (λ u. (u + minus 8) % 4294967296) e1 ∙ place) word
      (rw e2 (combine g (3 + 1 + 1) (3 + 1 + 6 * length xs + 1) q n1 (n + 4) f.state.world P Sub 1 1 6 base code.stand.1.0 refl difference1
      (link g (3 + 1) (3 + 1 + 6 * length xs) q1 n1 (n + 4 + 4) f.state.world P 8 8 refusal_bytes back code.stand.1.1.0 refl to
      (passing_then (3 + 1) (3 + 1) new.parameters xs ws no_values e q8 n1 back mid f.state.world P (arriving_first g gs l y laid hf f.state.rooms f.state.deeper f.state.frame f.state.taken f.state.env f.state.cells callers new rooms2 deeper2 active roof m is)
      (fast.0, refl, fast.2, fast.3, fast.4) slots av bv (record { stand = stands_left g.space back args (Jalr 8 8 0 ∷ receiving hf f.to) there.stand; end = refl }) (λ z m2 is2 fast2 z6 z8.
      link g 3 3 z m2 mid f.state.world P 8 8 0 (n + 4 + 4 + 4) there1.stand.0 refl (ap (λ u. (u + 0) % 4294967296 / 2 * 2) z8 ∙ jumped (n + 4 + 4 + 4) even_rest)
      (kept_then c e (with_any z 8 (mid + 4)) m2 (n + 4 + 4 + 4) is2 fast2 (z6 ∙ e6) way_at rest takes lows)))))))
      (omega arith) (omega arith)
